use Rattle.std.proofs.Common.{◌∙◌, ap, arith, drop, map, sym}
use Rattle.std.proofs.lemmas.List.{drop-map}
use Rattle.std.proofs.lemmas.List.Sums.{prefix_len-le-length}
use Rattle.recordings.specs.EventView.{event_of}
use Rattle.shot.specs.Play.{is_by}
use Rattle.shot.proofs.PlayLemmas.{played_until, prefix_mapped}
use Rattle.shot.proofs.play.play_until.Goals as goal

pub split_at-requires : goal.split_at-requires
split_at-requires c =
    omega (arith, c.count_until.ensures, prefix_len-le-length (λ event. is_by c.args.time (event_of event)) c.args.events.now)

pub returns-clause-stands : goal.returns-clause-stands
returns-clause-stands c =
    played_until c.args.terminal.now c.act_all.new.terminal c.settle.new.self c.args.events.now c.split_at.result.0.now c.args.time c.count_until.result
    c.split_at.ensures.front (c.count_until.ensures ∙ prefix_mapped event_of (is_by c.args.time) c.args.events.now) c.in_ok-act_all.ensures c.in_ok-settle.ensures.done

pub returns-clause-rest : goal.returns-clause-rest
returns-clause-rest c =
    ap (map event_of) c.split_at.ensures.back
    ∙ sym (drop-map event_of c.count_until.result c.args.events.now)
    ∙ ap (λ n. drop n (map event_of c.args.events.now)) (c.count_until.ensures ∙ prefix_mapped event_of (is_by c.args.time) c.args.events.now)

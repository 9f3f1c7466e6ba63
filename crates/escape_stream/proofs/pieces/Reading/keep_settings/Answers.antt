use Rattle.std.proofs.Common.{rules, ◌≡◌, length}
use Rattle.escape_stream.proofs.SequenceLemmas.{kept_left, none_left}
use Rattle.escape_stream.proofs.pieces.Reading.keep_settings.Goals as goal

pub returns-then-not-is_empty : goal.returns-then-not-is_empty
returns-then-not-is_empty c =
    let n : ¬ (length c.args.rest.now ≡ 0) = search rules in
    kept_left c.args.self.now c.args.start c.args.rest.now c.keep.new.self c.requires.begins c.requires.list n c.keep.ensures

pub returns-else-not-is_empty : goal.returns-else-not-is_empty
returns-else-not-is_empty c =
    let n : length c.args.rest.now ≡ 0 = search rules in
    none_left c.args.self.now c.args.rest.now c.requires.over n

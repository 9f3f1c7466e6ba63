use Rattle.std.proofs.Common.{◌≡◌}
use Rattle.screen_change.specs.contracts.change.ChangePartialEq.TheImpl as derived
use Rattle.screen_change.proofs.EqualChanges.{change_eq}
use Rattle.screen_change.proofs.laws.equality_is_by_value.Goals as goal

pub returns : goal.returns
returns c = let d = change_eq c.args.a.now c.args.b.now in let e : c.eq.result ≡ derived.ghosts.eq c.args.a.now c.args.b.now = c.eq.ensures in rw e d

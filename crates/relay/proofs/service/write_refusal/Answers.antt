use Rattle.std.proofs.Common.{Result, Ok, Err, OnOk, codes, subst}
use Rattle.std.specs.Io.KnownBytes.{Appends}
use Rattle.relay.specs.declared.service.TheConstants.{PROFILES}
use Rattle.relay.proofs.FaultLemmas.{three_appended}
use Rattle.relay.proofs.service.write_refusal.Goals as goal

if_ok : {T E : Type 0} (r : Result T E) (P Q : Type 0) → (P → Q) → OnOk r P → OnOk r Q
if_ok (Ok x) P Q f p = f p
if_ok (Err e) P Q f p = tt

pub returns-clause-ok : goal.returns-clause-ok
returns-clause-ok g c =
    let old = g.F.Write.contents c.args.faults.now.inner in
    let mid = g.F.Write.contents c.write_all.new.self.inner in
    let next = g.F.Write.contents c.write_all-2.new.self.inner in
    let new = g.F.Write.contents c.write_all-3.new.self.inner in
    let second = subst (Appends mid next) c.as_bytes.ensures.value c.in_ok-write_all-2.ensures.ok in
    if_ok c.write_all-3.result _ _
    (λ last. three_appended old mid next new (codes "error: invalid value '") c.args.name.now PROFILES.now c.in_ok-write_all.ensures.ok second
    (subst (Appends next new) c.as_bytes-2.ensures.value last)) c.write_all-3.ensures.ok

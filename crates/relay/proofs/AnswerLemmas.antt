-- What a new terminal of a profile writes of an input.
use Rattle.std.proofs.Common.{◌≡◌, ◌<◌, ◌^◌, ℕ, Bool, true, false, List, [], ◌∷◌, Option, Some, None, Result, Ok, Err, OnOk, OnErr, arith, inr, refl, subst, sym}
use Rattle.std.specs.Prelude.{IfSome, if◌then◌else◌}
use Rattle.std.specs.Io.KnownBytes.{Appends}
use Rattle.cell_base.specs.Cluster.{program_width}
use Rattle.terminal.specs.Fed.{ShowsRows, ShowsSomeRows}
use Rattle.terminal.specs.Refusals.{ReadingIsRefusedMemory, ReadingNeedsNumber, all_looks, one_look}
use Rattle.terminal.specs.Shown.{AppendsPrefix}
use Rattle.terminal.specs.Terminal.{Terminal}
use Rattle.terminal.specs.Written.{IsAt, LooksNeedNumber, SendsAll, SendsFirst}
use Rattle.terminal.proofs.AnswerLemmas.{quiet_look}
use Rattle.terminal.proofs.AppendLemmas.{keeps_same, nothing_appended}
use Rattle.terminal_table.specs.History.{Piece, Look}
use Rattle.terminal_viewers.specs.Updates.{standing_after}
use Rattle.relay.specs.CommandLine.{Asked}
use Rattle.relay.specs.Output.{MemoryRunsOut, NumbersRunOut, first_standing, written}

pub if_ok : {T E : Type 0} (r : Result T E) (P Q : Type 0) → (P → Q) → OnOk r P → OnOk r Q
if_ok (Ok x) P Q f p = f p
if_ok (Err e) P Q f p = tt

pub if_err : {T E : Type 0} (r : Result T E) (P Q : Type 0) → (P → Q) → OnErr r P → OnErr r Q
if_err (Ok x) P Q f p = tt
if_err (Err e) P Q f p = f p

-- ---- a terminal at its first standing

module _ (asked : Asked) {W : Type 0} (t : Terminal W) (at : IsAt t (first_standing asked)) where
  abbrev widths : W → List ℕ → ℕ
  widths w = program_width

  module _ (is : asked.is_show ≡ true) where
    pub shown : (input old new : Option (List ℕ)) → ShowsRows widths t input old new → IfSome input (λ x. Appends old new (written asked x))
    unfolding written
    shown None old new rows = tt
    shown (Some x) old new rows = rw is (rows (first_standing asked) at (omega arith))

    pub shown_some : (input old new : Option (List ℕ)) → ShowsSomeRows widths t input old new → IfSome input (λ x. AppendsPrefix old new (written asked x))
    unfolding written
    shown_some None old new rows = tt
    shown_some (Some x) old new rows = rw is (rows (first_standing asked) at (omega arith))

    pub showing_past : (input : Option (List ℕ)) → ReadingNeedsNumber widths one_look t input → IfSome input (NumbersRunOut asked)
    showing_past None past = tt
    showing_past (Some x) past = rw is (past (first_standing asked) at (omega arith))

    pub showing_refused : (input left : Option (List ℕ)) → ReadingIsRefusedMemory widths one_look t input left → IfSome input (MemoryRunsOut asked left)
    showing_refused None left refused = tt
    showing_refused (Some x) left refused = rw is (refused (first_standing asked) at (omega arith))

  module _ (is : asked.is_show ≡ false) where
    pub sent : (input old new : Option (List ℕ)) → SendsAll widths asked.every t input old new → IfSome input (λ x. Appends old new (written asked x))
    unfolding written
    sent None old new all = tt
    sent (Some x) old new all = rw is (all (first_standing asked) at (omega arith))

    pub sent_some : (input left old new : Option (List ℕ)) → SendsFirst widths asked.every t input left old new → IfSome input (λ x. AppendsPrefix old new (written asked x))
    unfolding written
    sent_some None left old new first = tt
    sent_some (Some x) left old new first = rw is (first (first_standing asked) at (omega arith)).of_input

    pub sending_past : (input : Option (List ℕ)) → LooksNeedNumber widths asked.every t input → IfSome input (NumbersRunOut asked)
    sending_past None past = tt
    sending_past (Some x) past = rw is (past (first_standing asked) at (omega arith))

    pub sending_refused : (input left : Option (List ℕ)) → ReadingIsRefusedMemory widths (all_looks asked.every) t input left → IfSome input (MemoryRunsOut asked left)
    sending_refused None left refused = tt
    sending_refused (Some x) left refused = rw is (refused (first_standing asked) at (omega arith))

-- ---- no terminal

pub nothing_written : (asked : Asked) (input old : Option (List ℕ)) → IfSome input (λ x. AppendsPrefix old old (written asked x))
nothing_written asked None old = tt
nothing_written asked (Some x) old = record { written = []; remaining = written asked x; whole = refl; appends = nothing_appended old old (keeps_same old) }

no_history : (b : Bool) (every : ℕ) → (if b then one_look else all_looks every) [] ≡ Piece [] ∷ Look ∷ []
no_history true every = refl
no_history false every = refl

-- before the first read there are numbers for all that was read, which is nothing
pub memory_first : (asked : Asked) (input : Option (List ℕ)) → IfSome input (MemoryRunsOut asked input)
memory_first asked None = tt
memory_first asked (Some x) =
    let start = first_standing asked in
    record {
      part = record { read = []; rest = x; whole = refl; remaining = refl };
      why = inr (inr (subst (λ h. (standing_after program_width start h).log.log.number < 2 ^ 64) (sym (no_history asked.is_show asked.every))
          (subst (λ n. n < 2 ^ 64) (sym (quiet_look program_width start refl)) (omega arith))));
    }

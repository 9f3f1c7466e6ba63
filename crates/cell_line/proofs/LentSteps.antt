-- The calls that lend a line's cells return a `&mut` in an `Ok`: `settled_cells` and `slice_of` ensure the callers' common contract. Assumes `Logic`.
use mathlib.Core.Path.{◌≡◌, refl, sym, ap, ◌∙◌}
use mathlib.Core.Option.{some, none}
use Prim.Native.Nat.{ℕ, zero, suc}
use mathlib.Core.List.{List, [], ◌∷◌, ◌++◌}
use lib.ListN.{length}
use seplogic.Ra.Ura.{Ura}
use mir.Syntax.{named, Body, Arms, arm, default, no_default, skip, switch}
use mir.Val.{Val, vptr, vstruct, vnil, of_list}
use base.Logic.{SProp, ent, sep, emp, via, ex_e, ex_i, snd∗, emp∗, mono_l, mono_r}
use base.Fml.{Lft, GName, Share, Fml, flft, fres}
use prog.Memory.{Memory}
use prog.Routine.{Routine}
use types.Logic.{Logic, sem}
use contract.Monad.{fact, fact_i, Fun}
use types.Kit.{Item, Goal, Seq, ‵, raw, given, mean, drop, fpick, fsplit, feq_l, use2, ◌$◌, ◌∵◌, !, qed, move, use0, use1, join, check, fjoin, fpack, feq_i, suffices, frame, done}
use types.Match.{live}
use denote.Array.{Array}
use denote.Enum.Declared.{shape}
use denote.Enum.Enum.{form_of, in_a_row}
use denote.Enum.Row.{tagged_with}
use denote.Exit.{no}
use denote.Follow.{follows, follows_if, follows_by, such_by, follows_then}
use denote.RattleType.{RattleType, Valss, owns}
use denote.Laws.{Is}
use denote.Struct.Struct.{Struct, Struct-Makes}
use denote.Struct.Declared as Declared
use denote.Ref.{MutBor, MutRef, mut_vals}
use denote.Signature.{plain, mut_ref_to}
use denote.Slice.{MutSlice}
use denote.Steps.{nothing, only, owned}
use denote.Triple.Clauses.{Clauses, lasts}
use denote.Triple.Spec.{triple_of}
use denote.Triple.Statement.{Contract}
use denote.Triple.Walked.{needs, Stays, stay_dropped, walk_of, ends_at}
use Rattle.std.specs.Prelude.{Ok, Err, IfOk, IsOk, OnErr}
use Rattle.std.specs.Global.{Vec}
use Rattle.std.specs.Vec.{with_items}
use Rattle.std.specs.contracts.alloc.Global.{the_row as global}
use Rattle.std.specs.contracts.impls.GlobalAllocator.TheImpl.{ghosts}
use Rattle.std.specs.contracts.vec.Vec.{the_row as vec}
use Rattle.std.specs.contracts.alloc.AllocError as error
use Rattle.std.specs.contracts.result.Result as result
use Rattle.cell_base.specs.CellContent.{CellContent, row_of_cells}
use Rattle.cell_base.specs.contracts.cell.Cell.{the_row as cell}
use Rattle.cell_line.specs.LineContent.{LineContent}
use Rattle.cell_line.specs.LineCalls.{cells_mut}
use Rattle.cell_line.specs.LentCells.{LendsCells, LendsStored}
use Rattle.cell_edits.specs.ShownCells.{lent_cells}
use Rattle.cell_line.specs.contracts.line.Line.{the_row as line}
use Rattle.cell_line.specs.contracts.line.Line.settled_cells as settled
use Rattle.cell_line.specs.contracts.lent_cells.slice_of as slice
use Rattle.cell_line.specs.contracts.line.Line.cells_mut as own
use Rattle.cell_edits.proofs.CellLemmas.{length-row}
use Rattle.cell_edits.proofs.LinkLemmas.{written}

abbrev pub stayed : Stays own.ended.signature.params own.ended.kept
stayed = (stay_dropped (mut_ref_to (0 ∷ []) tt (plain (λ _. line))) no, tt)

-- an `Ok` is made of its one field
made_Ok : {M : Type 1} {𝓤 : Ura M} (𝓛 : Logic 𝓤) (X : RattleType) (x : X.Denot) (v : Val)
    → ent 𝓤 (sem 𝓛 (X.own_val x (v ∷ []))) (sem 𝓛 ((result.the_row X error.the_row).own_val (Ok x) (live 0 (of_list (v ∷ [])) ∷ [])))
made_Ok 𝓛 X x v =
    qed 𝓛 (‵ (X.own_val x (v ∷ [])) ∷ []) ∵ nothing ! $ move ! (1 ∷ 0 ∷ []) $ fjoin ! $ feq_i ! (List Val) (v ∷ []) (v ∷ []) refl $ fjoin ! $
    fpack ! (Valss (X ∷ [])) (in_a_row (X ∷ []) (owns (X ∷ []) (x, tt)) (v ∷ [])) (v ∷ [], tt) $
    feq_i ! (List Val) (live 0 (of_list (v ∷ [])) ∷ []) (live 0 (of_list (v ∷ [])) ∷ []) refl $ fjoin ! $
    fpack ! (List Val) (tagged_with (form_of (shape (result.the_type X error.the_row))) (form_of (shape (result.the_type X error.the_row))).payload ((result.the_type X error.the_row).to (Ok x)) (live 0 (of_list (v ∷ [])) ∷ [])) (v ∷ []) $ done !

-- an `Err` too
made_Err : {M : Type 1} {𝓤 : Ura M} (𝓛 : Logic 𝓤) (X : RattleType)
    → ent 𝓤 (emp 𝓤) (sem 𝓛 ((result.the_row X error.the_row).own_val (Err (record {})) (live 1 (of_list (vstruct vnil ∷ [])) ∷ [])))
made_Err 𝓛 X =
    qed 𝓛 [] ∵ nothing ! $ owned ! (Struct (Declared.shape error.the_type)) (Is (Struct (Declared.shape error.the_type))) (Struct-Makes 𝓛 (Declared.shape error.the_type) tt) tt (vstruct vnil ∷ []) (tt, (refl, tt)) $ fjoin ! $
    feq_i ! (List Val) (vstruct vnil ∷ []) (vstruct vnil ∷ []) refl $ fjoin ! $
    fpack ! (Valss (error.the_row ∷ [])) (in_a_row (error.the_row ∷ []) (owns (error.the_row ∷ []) (record {}, tt)) (vstruct vnil ∷ [])) (vstruct vnil ∷ [], tt) $
    feq_i ! (List Val) (live 1 (of_list (vstruct vnil ∷ [])) ∷ []) (live 1 (of_list (vstruct vnil ∷ [])) ∷ []) refl $ fjoin ! $
    fpack ! (List Val) (tagged_with (form_of (shape (result.the_type X error.the_row))) (form_of (shape (result.the_type X error.the_row))).payload ((result.the_type X error.the_row).to (Err (record {}))) (live 1 (of_list (vstruct vnil ∷ [])) ∷ [])) (vstruct vnil ∷ []) $ done !

-- three facts
facts : {M : Type 1} (𝓤 : Ura M) {A B C : Type 0} → A → B → C → ent 𝓤 (emp 𝓤) (sep 𝓤 (fact 𝓤 A) (sep 𝓤 (fact 𝓤 B) (fact 𝓤 C)))
facts 𝓤 {A} {B} {C} a b c =
    via 𝓤 (sep 𝓤 (emp 𝓤) (emp 𝓤)) (emp∗ 𝓤 (emp 𝓤)) (via 𝓤 (sep 𝓤 (fact 𝓤 A) (emp 𝓤)) (mono_l 𝓤 (emp 𝓤) (fact_i 𝓤 A (emp 𝓤) a)) (mono_r 𝓤 (fact 𝓤 A)
    (via 𝓤 (sep 𝓤 (emp 𝓤) (emp 𝓤)) (emp∗ 𝓤 (emp 𝓤)) (via 𝓤 (sep 𝓤 (fact 𝓤 B) (emp 𝓤)) (mono_l 𝓤 (emp 𝓤) (fact_i 𝓤 B (emp 𝓤) b)) (mono_r 𝓤 (fact 𝓤 B) (fact_i 𝓤 C (emp 𝓤) c))))))

-- the body of an arm of a `switch`
abbrev nth_arm : ℕ → Arms → Body
nth_arm zero (arm ks body arms) = body
nth_arm (suc n) (arm ks body arms) = nth_arm n arms
nth_arm n (default body) = body
nth_arm n no_default = skip

abbrev pub arm_body : ℕ → Body → Body
arm_body n (switch tag arms) = nth_arm n arms
arm_body n _ = skip

-- the vector that holds the cells
abbrev pub stored : RattleType
stored = vec cell global ghosts

module _ {M : Type 1} {𝓤 : Ura M} (𝓛 : Logic 𝓤) (at_mem : Memory → SProp 𝓤) (run : Routine → Fun 𝓤) where
  open 𝓛 use {A, H}

  abbrev pub Settles : Contract 𝓤
  Settles = triple_of 𝓛 settled.signature (settled.spec 𝓛 at_mem run)

  abbrev pub Slices : Contract 𝓤
  Slices = triple_of 𝓛 slice.signature (slice.spec 𝓛 at_mem run)

  abbrev pub clauses : Clauses 𝓤 own.ended
  clauses = own.clauses 𝓛 at_mem run

  module _ (κ : Lft) (q : Share) (b o : ℕ) (γ : GName) (content : LineContent) where
    abbrev self : MutBor LineContent
    self = record { ref_ptr = (b, o); ghost_name = γ; now = content }

    abbrev pub Stored : RattleType
    Stored = MutRef (named 0) κ stored

    abbrev pub Lent : RattleType
    Lent = MutSlice (named 0) κ cell

    abbrev pub Answered : RattleType
    Answered = result.the_row Stored error.the_row

    -- the ghosts of the two calls, and of the whole function
    abbrev pub at_settled : Settles.Ghost
    at_settled = (((κ, tt), (q, tt), tt, (self, tt), (vptr b o ∷ [], tt)), tt)

    abbrev pub at_slice : MutBor (Vec CellContent) → Slices.Ghost
    at_slice x = (((κ, tt), (q, tt), tt, (x, tt), (mut_vals x, tt)), tt)

    abbrev pub bound : (walk_of 𝓛 own.ended stayed clauses).Ghost
    bound = (((κ, tt), (q, tt), tt, (self, tt), (vptr b o ∷ [], tt)), tt)

    abbrev pub Post : Val → SProp 𝓤
    Post = (walk_of 𝓛 own.ended stayed clauses).post bound

    -- the line's final value, for a final vector and for final cells
    abbrev with_stored : Vec CellContent → LineContent
    with_stored cells = cells_mut content cells.items

    abbrev final : MutBor (Vec CellContent) → List CellContent → LineContent
    final x cells = with_stored (with_items x.now cells)

    abbrev pub Follows : MutBor (Vec CellContent) → Fml
    Follows x = follows line stored γ x.ghost_name with_stored

    abbrev pub Goes : MutBor (Vec CellContent) → MutBor (List CellContent) → Fml
    Goes x r = follows stored (Array cell 0) x.ghost_name r.ghost_name (with_items x.now)

    abbrev pub Shown : MutBor (Vec CellContent) → Type 0
    Shown x = (x.now.items ≡ lent_cells content.columns) × (row_of_cells x.now.items ≡ content.columns)

    abbrev pub Same : Answered.Denot → Type 0
    Same a = IfOk a Shown

    -- the postconditions of `settled_cells` and of `slice_of`
    abbrev pub Ensured : Answered.Denot → SProp 𝓤
    Ensured a = (settled.spec 𝓛 at_mem run (κ, tt) (self, tt)).ensures tt a

    pub ensured : (a : Answered.Denot) → ent 𝓤 (Ensured a) (mean 𝓛 (given (Same a) (‵ (LendsStored self a))))
    ensured a = ex_e 𝓤 _ (λ ws. via 𝓤 (sep 𝓤 (sem 𝓛 (LendsStored self a)) (fact 𝓤 (Same a))) (snd∗ 𝓤 (sem 𝓛 (lasts settled.ended (κ, tt) (self, tt) ws)) (sep 𝓤 (sem 𝓛 (LendsStored self a)) (fact 𝓤 (Same a))))
        (needs 𝓤 (Same a) (sem 𝓛 (LendsStored self a)) (λ e. qed 𝓛 (‵ (LendsStored self a) ∷ []) ∵ check ! e $ done !)))

    abbrev pub Sliced : MutBor (Vec CellContent) → MutBor (List CellContent) → SProp 𝓤
    Sliced x r = (slice.spec 𝓛 at_mem run (κ, tt) (x, tt)).ensures tt r

    pub sliced : (x : MutBor (Vec CellContent)) (r : MutBor (List CellContent)) → ent 𝓤 (Sliced x r) (mean 𝓛 (given (r.now ≡ x.now.items) (‵ (Goes x r))))
    sliced x r = ex_e 𝓤 _ (λ ws. via 𝓤 (sep 𝓤 (sem 𝓛 (Goes x r)) (fact 𝓤 (r.now ≡ x.now.items))) (snd∗ 𝓤 (sem 𝓛 (lasts slice.ended (κ, tt) (x, tt) ws)) (sep 𝓤 (sem 𝓛 (Goes x r)) (fact 𝓤 (r.now ≡ x.now.items))))
        (needs 𝓤 (r.now ≡ x.now.items) (sem 𝓛 (Goes x r)) (λ e. qed 𝓛 (‵ (Goes x r) ∷ []) ∵ check ! e $ done !)))

    -- the two cases of the result of `settled_cells`
    pub cases : {K : Type 0} {Γ : List (Item 𝓤)} {G : Goal 𝓤 H} → K → (a : Answered.Denot) (v : Val) → Same a
        → ((x : MutBor (Vec CellContent)) → Shown x → v ≡ live 0 (of_list (mut_vals x)) → Seq K 𝓛 (‵ (Stored.own_val x (mut_vals x)) ∷ ‵ (Follows x) ∷ Γ) G)
        → (v ≡ live 1 (of_list (vstruct vnil ∷ [])) → Seq K 𝓛 (‵ (fres γ (line.coded.code content)) ∷ Γ) G)
        → Seq K 𝓛 (‵ (Answered.own_val a (v ∷ [])) ∷ ‵ (LendsStored self a) ∷ Γ) G
    unfolding follows_by
    cases t (Ok x) v same ok err =
        fpick t (λ us. fsplit t $ feq_l t (λ e. fpick t (λ vss. fsplit t $ feq_l t (λ e'. fsplit t $ move t (1 ∷ []) $ drop t $ fsplit t $ feq_l t (λ e''.
        feq_i t (List Val) (mut_vals x) (mut_vals x) refl $ fjoin t $
        ok x same (ap only e ∙ ap (λ (ws : List Val). live 0 (of_list ws)) (e' ∙ ap (λ (ws : List Val). ws ++ []) e'')))))))
    cases t (Err n) v same ok err =
        fpick t (λ us. fsplit t $ feq_l t (λ e. fpick t (λ vss. fsplit t $ feq_l t (λ e'. fsplit t $ fpick t (λ none. fsplit t $ feq_l t (λ e''. drop t $ drop t $
        err (ap only e ∙ ap (λ (ws : List Val). live 1 (of_list ws)) (e' ∙ ap (λ (ws : List Val). ws ++ []) e''))))))))

    -- the clause for the line's final value
    abbrev Ends : (result.the_row Lent error.the_row).Denot → List CellContent → LineContent → Type 0
    Ends a cells new = IsOk a → length cells ≡ length content.columns → new ≡ cells_mut content cells

    abbrev Refused : (result.the_row Lent error.the_row).Denot → LineContent → Type 0
    Refused a new = OnErr a (new ≡ content)

    count : (x : MutBor (Vec CellContent)) → Shown x → length x.now.items ≡ length content.columns
    count x e = sym (length-row x.now.items) ∙ ap length e.1

    says : (x : MutBor (Vec CellContent)) (r : MutBor (List CellContent)) → Shown x
        → ent 𝓤 (sep 𝓤 (sem 𝓛 (Follows x)) (sem 𝓛 (Goes x r))) (sem 𝓛 (LendsCells {E = error.the_row.Denot} self (Ok r)))
    unfolding such_by follows_by
    says x r e =
        via 𝓤 (sem 𝓛 (follows line (Array cell 0) γ r.ghost_name (final x))) (follows_then 𝓛 line stored (Array cell 0) with_stored (with_items x.now) γ x.ghost_name r.ghost_name)
        (ex_i 𝓤 (λ (y : (p : (List CellContent → LineContent) × LineContent) × ((cells : List CellContent) → Ends (Ok r) cells (p.0 cells)) × Refused (Ok r) p.1). sem 𝓛 (follows_if line (Array cell 0) γ (some r.ghost_name) y.0.0 y.0.1))
        ((final x, content), (λ cells ok long. ap (cells_mut content) (written x.now cells (long ∙ sym (count x e)))), tt))

    says_refused : ent 𝓤 (A.res γ (line.coded.code content)) (sem 𝓛 (LendsCells {E = error.the_row.Denot} self (Err (record {}))))
    unfolding such_by follows_by
    says_refused =
        ex_i 𝓤 (λ (y : (p : (List CellContent → LineContent) × LineContent) × ((cells : List CellContent) → Ends (Err (record {})) cells (p.0 cells)) × Refused (Err (record {})) p.1). sem 𝓛 (follows_if line (Array cell 0) γ none y.0.0 y.0.1))
        ((cells_mut content, content), (λ cells ok long. refl), refl)

    pub leaves : (x : MutBor (Vec CellContent)) (r : MutBor (List CellContent)) (v : Val) → Shown x → r.now ≡ x.now.items
        → ent 𝓤 (sep 𝓤 (sem 𝓛 (Lent.own_val r (v ∷ []))) (sep 𝓤 (A.lft κ q) (sep 𝓤 (sem 𝓛 (Follows x)) (sem 𝓛 (Goes x r))))) (Post (live 0 (of_list (v ∷ []))))
    leaves x r v e same =
        qed 𝓛 (‵ (Lent.own_val r (v ∷ [])) ∷ ‵ (flft κ q) ∷ ‵ (Follows x) ∷ ‵ (Goes x r) ∷ []) ∵
        use1 𝓛 (‵ ((result.the_row Lent error.the_row).own_val (Ok r) (live 0 (of_list (v ∷ [])) ∷ []))) (made_Ok 𝓛 Lent r v) $
        move ! (2 ∷ 3 ∷ []) $ use2 𝓛 (‵ (LendsCells {E = error.the_row.Denot} self (Ok r))) (says x r e) $ move ! (1 ∷ 2 ∷ []) $
        suffices ! _ (ends_at 𝓛 own.ended stayed clauses bound (live 0 (of_list (v ∷ []))) (Ok r) (tt, tt) (tt, tt)) $
        nothing ! $ nothing ! $ fjoin ! $ join ! $ nothing ! $ move ! (2 ∷ 0 ∷ []) $ join ! $ join ! $ frame !
        $ use0 𝓛 (raw (sep 𝓤 (fact 𝓤 (r.now ≡ lent_cells content.columns)) (sep 𝓤 (fact 𝓤 (row_of_cells r.now ≡ content.columns)) (fact 𝓤 (length r.now ≡ length content.columns)))))
        (facts 𝓤 (same ∙ e.0) (ap row_of_cells same ∙ e.1) (ap length same ∙ count x e)) $ move ! (1 ∷ 0 ∷ []) $ join ! $ done !

    pub leaves_refused : ent 𝓤 (sep 𝓤 (A.lft κ q) (A.res γ (line.coded.code content))) (Post (live 1 (of_list (vstruct vnil ∷ []))))
    leaves_refused =
        qed 𝓛 (‵ (flft κ q) ∷ ‵ (fres γ (line.coded.code content)) ∷ []) ∵
        use0 𝓛 (‵ ((result.the_row Lent error.the_row).own_val (Err (record {})) (live 1 (of_list (vstruct vnil ∷ [])) ∷ []))) (made_Err 𝓛 Lent) $
        move ! (2 ∷ []) $ use1 𝓛 (‵ (LendsCells {E = error.the_row.Denot} self (Err (record {})))) says_refused $ move ! (1 ∷ 2 ∷ []) $
        suffices ! _ (ends_at 𝓛 own.ended stayed clauses bound (live 1 (of_list (vstruct vnil ∷ []))) (Err (record {})) (tt, tt) (tt, tt)) $
        nothing ! $ nothing ! $ fjoin ! $ join ! $ nothing ! $ move ! (2 ∷ 0 ∷ []) $ join ! $ join ! $ frame !
        $ use0 𝓛 (raw (sep 𝓤 (fact 𝓤 (Unit {0})) (sep 𝓤 (fact 𝓤 (Unit {0})) (fact 𝓤 (Unit {0}))))) (facts 𝓤 tt tt tt) $ move ! (1 ∷ 0 ∷ []) $ join ! $ done !

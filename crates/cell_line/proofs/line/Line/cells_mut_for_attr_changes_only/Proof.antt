-- The cells of the vector that `settled_cells` lends go on in an `Ok`, and its refusal in an `Err`. Assumes `Logic`.
use mathlib.Core.Path.{◌≡◌, refl, ap}
use Prim.Native.Nat.{ℕ, ◌*◌, ◌^◌}
use mathlib.Core.List.{List, [], ◌∷◌}
use lib.ListN.{length}
use lib.Dec.{lit<}
use seplogic.Ra.Ura.{Ura}
use mir.Syntax.{named, Body}
use mir.Val.{Val, vptr}
use base.Logic.{SProp, ent, id⊢}
use base.Fml.{Lft, GName, Share, ftrue, flft}
use prog.Wp.{Env, Calls, Loops, Wp, WpFn, Tables, after_seq, at_return}
use prog.Memory.{Memory}
use prog.Routine.{Routine}
use types.Logic.{Logic}
use contract.Monad.{Fun}
use contract.Running.{tables, tables_of}
use sound.WpLaws.{FmC, fm_of, WpFn-mono}
use types.Kit.{Post as After, any_q, at_ret, ‵, raw, ◌⊛◌, some, later, given, ◌$◌, ◌∵◌, !, qed, by, move, keep, use1, learn, await, pick, split, join, fsplit, fjoin, feq_l, feq_i, flt_l, flt_i}
use types.Match.{vrt, in_variant}
use types.Part.{whole, agg}
use types.Run.{stop, fld, addr, lit, of_opd, and_then, no_more, first, switches_on, exec, returns, enter}
use types.ByLocal.{alloc_all, pass_all, free_all, look_at, get, get_in, get_tag, through, lands_as, sets, sets_last, env}
use denote.Memory.{mem}
use denote.Ref.{MutBor, mut_vals, mut_Tells}
use denote.Signature.{plain}
use denote.Slice.{slice_val}
use denote.Steps.{nothing, only}
use denote.Triple.Call.{calls_at}
use denote.Triple.Clauses.{closing}
use denote.Triple.Spec.{Meets, triple_of}
use denote.Triple.Statement.{Triple}
use denote.Triple.Table.{entered}
use denote.Triple.Walked.{walked, walk_Meets, Goes-spent_ref}
use Rattle.cell_base.specs.CellContent.{CellContent}
use Rattle.cell_base.specs.contracts.cell.Cell.{the_row as cell}
use Rattle.cell_line.specs.LineContent.{LineContent}
use Rattle.cell_line.specs.contracts.line.Line.{the_row as line}
use Rattle.cell_line.proofs.LentSteps.{stayed, Settles, Slices, arm_body, clauses, Lent, Answered, at_settled, at_slice, Post, Goes, Same, Ensured, ensured, Sliced, sliced, cases, leaves, leaves_refused}
use Rattle.cell_line.specs.LentCells.{LendsStored}
use Rattle.cell_line.proofs.line.Line.settled_cells.Symbol.{name as #settled_cells}
use Rattle.cell_line.proofs.line.Line.settled_cells.Met as settled_cells
use Rattle.cell_line.proofs.lent_cells.slice_of.Symbol.{name as #slice_of}
use Rattle.cell_line.proofs.lent_cells.slice_of.Met as slice_of
use Rattle.cell_line.specs.contracts.line.Line.cells_mut_for_attr_changes_only as own
use Rattle.cell_line.specs.contracts.line.Line.cells_mut_for_attr_changes_only.Key.{name as #self}
use Rattle.cell_line.proofs.line.Line.cells_mut_for_attr_changes_only.Statement as stated
use Rattle.cell_line.proofs.line.Line.cells_mut_for_attr_changes_only.Code as code

module _ {M : Type 1} {𝓤 : Ura M} (𝓛 : Logic 𝓤) (at_mem : Memory → SProp 𝓤) (run : Routine → Fun 𝓤) where
  open 𝓛 use {H}

  module _ (C : Calls 𝓤 H) (Λ : Loops 𝓤 H) (fm : FmC 𝓤 H 𝓛.laws C) (settles : Triple 𝓤 (C #settled_cells) (Settles 𝓛 at_mem run)) (slices : Triple 𝓤 (C #slice_of) (Slices 𝓛 at_mem run))
      (κ : Lft) (q : Share) (b o : ℕ) (γ : GName) (content : LineContent) where
    walk : ent 𝓤 ((Settles 𝓛 at_mem run).pre (at_settled 𝓛 at_mem run κ q b o γ content)) (WpFn 𝓤 H C Λ code.function (vptr b o ∷ []) (Post 𝓛 at_mem run κ q b o γ content))
    walk =
        let c = Settles 𝓛 at_mem run in
        let here = at_settled 𝓛 at_mem run κ q b o γ content in
        let k = Slices 𝓛 at_mem run in
        let R = Lent 𝓛 at_mem run κ q b o γ content in
        let X = Answered 𝓛 at_mem run κ q b o γ content in
        let End : Val → SProp 𝓤 = Post 𝓛 at_mem run κ q b o γ content in
        let self : MutBor LineContent = record { ref_ptr = (b, o); ghost_name = γ; now = content } in
        let rest : Body = code.Mir.t-4 in
        qed 𝓛 (raw (c.pre here) ∷ []) ∵ enter ! C Λ code.function (vptr b o ∷ []) _ $ alloc_all ! (λ l. pass_all ! refl ((tt, tt), tt) $
        let En : Env 𝓤 H = env code.function.locals l in
        let Then : After 𝓤 H = any_q (after_seq 𝓤 H (Wp 𝓤 H C Λ En rest (at_return 𝓤 H En End)) (at_return 𝓤 H En End)) in
        sets ! (addr ! (through ! refl (stop !))) refl (tt, tt) $
        calls_at ! fm c settles here (and_then ! (get ! refl) (no_more !)) (λ v.
        use1 𝓛 (later (some (λ (a : X.Denot). ((‵ (flft κ q) ⊛ ‵ ftrue) ⊛ ‵ (X.own_val a (v ∷ []))) ⊛ raw (Ensured 𝓛 at_mem run κ q b o γ content a)))) (id⊢ 𝓤 _) $ await ! tt $ pick ! (λ a.
        split ! $ split ! $ move ! (2 ∷ []) $ use1 𝓛 (given (Same 𝓛 at_mem run κ q b o γ content a) (‵ (LendsStored self a))) (ensured 𝓛 at_mem run κ q b o γ content a) $ learn ! (λ same.
        move ! (2 ∷ []) $ cases 𝓛 at_mem run κ q b o γ content ! a v same
        (λ x shown e. let y = at_slice 𝓛 at_mem run κ q b o γ content x in
        -- [the vector's reference; `Follows`; the tokens]
        lands_as ! e refl (tt, (record { fits = lit< tt }, (tt, tt))) $ first ! $ switches_on ! (get_tag ! (vrt ! refl (fld ! refl (stop !))) (whole !)) $ exec ! C Λ En (arm_body 0 code.Mir.s-3) Then $
        sets ! (of_opd ! (get_in ! (vrt ! refl (fld ! refl (stop !))) (in_variant ! 0 0 refl refl (whole !)))) refl (tt, tt) $
        sets ! (addr ! (through ! refl (stop !))) refl (tt, tt) $
        nothing ! $ move ! (1 ∷ 0 ∷ []) $ fjoin ! $ move ! (2 ∷ 0 ∷ []) $ join ! $ nothing ! $ move ! (1 ∷ 0 ∷ []) $ join ! $ use1 𝓛 (raw (k.pre y)) (id⊢ 𝓤 _) $
        calls_at ! fm k slices y (and_then ! (get ! refl) (no_more !)) (λ v'.
        use1 𝓛 (later (some (λ (r : MutBor (List CellContent)). ((‵ (flft κ q) ⊛ ‵ ftrue) ⊛ ‵ (R.own_val r (v' ∷ []))) ⊛ raw (Sliced 𝓛 at_mem run κ q b o γ content x r)))) (id⊢ 𝓤 _) $ await ! tt $ pick ! (λ r.
        split ! $ split ! $ split ! $ move ! (3 ∷ []) $ use1 𝓛 (given (r.now ≡ x.now.items) (‵ (Goes 𝓛 at_mem run κ q b o γ content x r))) (sliced 𝓛 at_mem run κ q b o γ content x r) $ learn ! (λ is.
        -- the slice reference's one machine value
        move ! (3 ∷ []) $ fsplit ! $ fsplit ! $ feq_l ! (λ e'. fsplit ! $ flt_l ! (λ fits. flt_l ! (λ small.
        let w : Val = slice_val r.ref_ptr (length r.now) in
        flt_i ! (length r.now * (mem cell).size) (2 ^ 63) small $ flt_i ! (length r.now) (2 ^ 64) fits $ fjoin ! $ feq_i ! (List Val) (w ∷ []) (w ∷ []) refl $ fjoin ! $ fjoin ! $
        lands_as ! (ap only e') refl (tt, (tt, (record { fits = fits }, tt))) $
        sets_last ! (agg ! (and_then ! (lit ! tt) (and_then ! (get ! refl) (no_more !)))) refl (tt, (record { fits = lit< tt }, ((tt, (record { fits = fits }, tt)), tt))) $
        exec ! C Λ En rest (at_ret En End) $ sets ! (of_opd ! (get ! refl)) refl (tt, (record { fits = lit< tt }, ((tt, (record { fits = fits }, tt)), tt))) $
        -- [the slice reference; `Goes`; the token; nothing; `Follows`]
        returns ! (look_at ! 0 refl) $ free_all ! refl $ keep ! (0 ∷ 2 ∷ 4 ∷ 1 ∷ []) $ by ! (leaves 𝓛 at_mem run κ q b o γ content x r w shown is))))))))
        (λ e.  -- [what the line is; the tokens]
        lands_as ! e refl (tt, (record { fits = lit< tt }, (tt, tt))) $ first ! $ switches_on ! (get_tag ! (vrt ! refl (fld ! refl (stop !))) (whole !)) $ exec ! C Λ En (arm_body 1 code.Mir.s-3) Then $
        sets ! (of_opd ! (get_in ! (vrt ! refl (fld ! refl (stop !))) (in_variant ! 1 0 refl refl (whole !)))) refl (tt, tt) $
        sets_last ! (agg ! (and_then ! (lit ! tt) (and_then ! (get ! refl) (no_more !)))) refl (tt, (record { fits = lit< tt }, (tt, tt))) $
        exec ! C Λ En rest (at_ret En End) $ sets ! (of_opd ! (get ! refl)) refl (tt, (record { fits = lit< tt }, (tt, tt))) $
        move ! (1 ∷ []) $ split ! $
        returns ! (look_at ! 0 refl) $ free_all ! refl $ keep ! (0 ∷ 2 ∷ []) $ by ! (leaves_refused 𝓛 at_mem run κ q b o γ content))))))

  meets : (𝓣 : Tables 𝓤 H) → Triple 𝓤 (𝓣.C #settled_cells) (Settles 𝓛 at_mem run) → Triple 𝓤 (𝓣.C #slice_of) (Slices 𝓛 at_mem run) → Meets 𝓛 own.signature (WpFn 𝓤 H 𝓣.C 𝓣.Λ code.function) (closing 𝓛 own.ended (clauses 𝓛 at_mem run))
  meets 𝓣 settles slices =
      let runs = WpFn 𝓤 H 𝓣.C 𝓣.Λ code.function in
      walk_Meets 𝓛 own.ended stayed (Goes-spent_ref 𝓛 1 (0 ∷ []) tt (plain (λ _. line)), tt) (clauses 𝓛 at_mem run) runs (WpFn-mono 𝓤 H 𝓛.laws 𝓣 code.function)
      (walked 𝓛 own.ended stayed (clauses 𝓛 at_mem run) runs (λ κs. (mut_vals, tt)) (λ κs. (mut_Tells (named 0) κs.0 line, tt))
      (λ κs qs bounds a g are. walk 𝓣.C 𝓣.Λ (fm_of 𝓤 H 𝓛.laws 𝓣) settles slices κs.0 qs.0 a.0.ref_ptr.0 a.0.ref_ptr.1 a.0.ghost_name a.0.now))

pub cells_mut_for_attr_changes_only_spec : {M : Type 1} → stated.statement M
unfolding tables_of
cells_mut_for_attr_changes_only_spec 𝓤 𝓛 𝓜 𝓡 wired =
    let 𝓣 : Tables 𝓤 𝓛.H = tables_of 𝓤 𝓛.H 𝓜 (tables 𝓤 𝓛.H 𝓜 𝓡 𝓡.env) in
    entered 𝓤 𝓛.H (triple_of 𝓛 own.signature (own.spec 𝓛 𝓜.mem 𝓡.returns)) 𝓣.C 𝓣.Λ #self code.function (code.unfolded 𝓤 𝓛.H 𝓜 𝓡 wired)
    (meets 𝓛 𝓜.mem 𝓡.returns 𝓣 (settled_cells.met 𝓤 𝓛 𝓜 𝓡 (code.calls-cell_line::line::Line::settled_cells 𝓡.env wired)) (slice_of.met 𝓤 𝓛 𝓜 𝓡 (code.calls-cell_line::lent_cells::slice_of 𝓡.env wired)))

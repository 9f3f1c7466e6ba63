use Rattle.std.proofs.Common.{◌≡◌, ◌+◌, ◌-◌, true, false, suc, [], ◌∷◌, List, length, refl, sym, ap, subst, ◌∙◌, arith}
use Rattle.std.specs.Prelude.{⊤, ℕ, ◌==◌, Result, Ok, Err}
use Rattle.std.proofs.lemmas.Bool.Decides.{nat_tests}
use Rattle.std.proofs.lemmas.Result.{err_from_is_err_and}
use Rattle.cell_base.specs.Row.{space}
use Rattle.cell_base.specs.Screen.{Screen}
use Rattle.cell_surface.specs.Surface.{Surface, shown_by}
use Rattle.screen_effects.specs.Display.{IsDisplay}
use Rattle.screen_effects.specs.WrittenCells.{IsSoundDisplay}
use Rattle.cell_surface.specs.declared.error.SurfaceError.{SurfaceError}
use Rattle.screen_change.specs.ChangeValue.{ChangeValue}
use Rattle.terminal_table.specs.Modes.{Modes}
use Rattle.terminal_table.specs.RunText.{IsRunText}
use Rattle.terminal_table.specs.Runs.{changes_repeated, last_cluster, run_done}
use Rattle.terminal_table.proofs.RunningLemmas.{last_runs}
use Rattle.xterm_steps.specs.Additions.{AddsWith}
use Rattle.terminal_steps.specs.ProfileView.{modes_in}
use Rattle.terminal_steps.specs.RunView.{CanBePut, PutsText}
use Rattle.terminal_steps.proofs.RepeatLemmas.{IsAgain, again_begun, again_ends, again_next, again_some, again_stops, none_repeated, nothing_repeated}
use Rattle.terminal_steps.proofs.RunLemmas.{with_more}
use Rattle.terminal_steps.proofs.runs.repeat_last.Goals.{then-is_empty-via-then-is_empty, then-is_empty-via-else-is_empty+then-count-eq0}
use Rattle.terminal_steps.proofs.runs.repeat_last.Goals as goal

-- a text is empty or not
is_none : (text : List ℕ) → (length text == 0) ≡ true → text ≡ []
is_none [] e = refl
is_none (byte ∷ text) e = let none : length (byte ∷ text) ≡ 0 = grind (arith, nat_tests) in absurd (omega (arith, none))

is_some : (text : List ℕ) → (length text == 0) ≡ false → text ≡ [] → ⊥
is_some text e none = let clash : true ≡ false = sym (ap (λ (t : List ℕ). length t == 0) none) ∙ e in cc

pub returns-then-is_empty-clause-added : goal.returns-then-is_empty-clause-added
returns-then-is_empty-clause-added g c = λ last.
    let modes : Modes = modes_in c.args.modes.now in
    let of = g.W.Widths.width_of c.args.surface.now.grid.widths in
    let s : Screen = (shown_by c.args.surface.now).screen in
    let cluster : c.last_cluster-cluster.result.now ≡ last_cluster modes.last = c.last_cluster-cluster.ensures ∙ ap last_cluster c.deref.ensures in
    let none : changes_repeated modes of c.args.count s ≡ [] = elim c.then-is_empty.branch [
      | then-is_empty-via-then-is_empty w ↦ nothing_repeated modes of c.args.count s (sym cluster ∙ is_none c.last_cluster-cluster.result.now (sym w.if-is_empty.ensures))
      | then-is_empty-via-else-is_empty+then-count-eq0 w ↦ none_repeated modes of c.args.count s w.if-count-eq0.true
    ] in
    subst (λ (changes : List ChangeValue). AddsWith true (λ w. g.W.Widths.width_of w) c.args.surface.now changes c.add_nothing.result c.add_nothing.new.surface) (sym none)
    (with_more (λ w. g.W.Widths.width_of w) c.args.surface.now c.add_nothing.new.surface [] c.add_nothing.result c.add_nothing.ensures)

-- a run can be put here
can_here : {W : Type 0} (width_of : W → List ℕ → ℕ) (surface : Surface W) (modes : Modes) → width_of surface.grid.widths space ≡ 1 → IsDisplay (shown_by surface) → IsSoundDisplay (width_of surface.grid.widths) (shown_by surface) → IsRunText modes.last
    → CanBePut width_of surface (last_cluster modes.last)
can_here width_of surface modes narrow h sound last = record {
  state = record { lawful = h.lawful; whole = h.whole; narrow = narrow; sound = sound; other = tt; last = tt };
  shown = h;
  printed = last_runs (width_of surface.grid.widths) modes last;
}

pub returns-then-current_seqno-eq18446744073709551615-clause-added :
    goal.returns-then-current_seqno-eq18446744073709551615-clause-added
returns-then-current_seqno-eq18446744073709551615-clause-added g c = λ last.
    let modes : Modes = modes_in c.args.modes.now in
    let cluster : c.last_cluster-cluster.result.now ≡ last_cluster modes.last = c.last_cluster-cluster.ensures ∙ ap last_cluster c.deref.ensures in
    let can = can_here (λ w. g.W.Widths.width_of w) c.args.surface.now modes (g.met.W.Widths.space_is_one c.args.surface.now.grid.widths) (c.surfaces_stay_lawful.ensures.lawful c.requires.stays) (c.surfaces_stay_lawful.ensures.cells c.requires.stays) last in
    let none = c.if-count-eq0.false in
    let more : c.args.count ≡ suc (c.args.count - 1) = omega (arith, none) in
    let some = again_some (λ w. g.W.Widths.width_of w) modes c.args.surface.now c.args.count (c.args.count - 1) more (λ e. is_some c.last_cluster-cluster.result.now (sym c.if-is_empty.ensures) (cluster ∙ e)) can in
    let number = c.current_seqno.ensures in
    let over = c.if-current_seqno-eq18446744073709551615.true in
    record { added = tt; failed = λ e. cc; numbers = λ e. (some, omega (arith, some, number, over)); memory = λ e more. cc; fits = tt }

pub loop-init : goal.loop-init
loop-init g c = λ last.
    let modes : Modes = modes_in c.args.modes.now in
    let can = can_here (λ w. g.W.Widths.width_of w) c.args.surface.now modes (g.met.W.Widths.space_is_one c.args.surface.now.grid.widths) (c.surfaces_stay_lawful.ensures.lawful c.requires.stays) (c.surfaces_stay_lawful.ensures.cells c.requires.stays) last in
    let same : c.args.count ≡ c.args.count - 0 = omega arith in
    subst (λ (left : ℕ). IsAgain (λ w. g.W.Widths.width_of w) modes c.args.surface.now c.args.surface.now c.args.count left) same (again_begun (λ w. g.W.Widths.width_of w) modes c.args.surface.now c.args.count c.requires.stays can)

-- as the cluster of the modes
puts : {W : Type 0} (width_of : W → List ℕ → ℕ) (modes : Modes) (now next : Surface W) (cluster : List ℕ) (result : Result ⊤ SurfaceError) → cluster ≡ last_cluster modes.last → PutsText width_of modes now cluster result next → CanBePut width_of now (last_cluster modes.last)
    → AddsWith true width_of now (run_done modes (width_of now.grid.widths) (shown_by now).screen (last_cluster modes.last)).changes result next
puts width_of modes now next cluster result e put can = subst (λ (text : List ℕ). PutsText width_of modes now text result next) e put can

pub returns-in_err-put_cluster-clause-added : goal.returns-in_err-put_cluster-clause-added
returns-in_err-put_cluster-clause-added g c = λ last.
    let modes : Modes = modes_in c.args.modes.now in
    let cluster : c.last_cluster-cluster.result.now ≡ last_cluster modes.last = c.last_cluster-cluster.ensures ∙ ap last_cluster c.deref.ensures in
    let a = c.loop.invariant last in
    let test = c.loop-test.true in
    let more : c.args.count - c.loop.counter ≡ suc (c.args.count - (c.loop.counter + 1)) = omega (arith, test) in
    let p = err_from_is_err_and c.from_residual.result c.from_residual.ensures.1 in
    let result : c.from_residual.result ≡ Err c.in_err-put_cluster.field-0.0 = p.1 ∙ ap Err p.2 in
    subst (λ (r : Result ⊤ SurfaceError). AddsWith true (λ w. g.W.Widths.width_of w) c.args.surface.now (changes_repeated modes (g.W.Widths.width_of c.args.surface.now.grid.widths) c.args.count (shown_by c.args.surface.now).screen) r c.put_cluster.new.surface) (sym result)
    (again_stops (λ w. g.W.Widths.width_of w) modes c.args.surface.now c.loop.surface c.put_cluster.new.surface c.args.count (c.args.count - c.loop.counter) (c.args.count - (c.loop.counter + 1)) c.in_err-put_cluster.field-0.0 more
    (λ e. is_some c.last_cluster-cluster.result.now (sym c.if-is_empty.ensures) (cluster ∙ e)) a
    (puts (λ w. g.W.Widths.width_of w) modes c.loop.surface c.put_cluster.new.surface c.last_cluster-cluster.result.now (Err c.in_err-put_cluster.field-0.0) cluster c.in_err-put_cluster.ensures a.can))

pub loop-preserved : goal.loop-preserved
loop-preserved g c = λ last.
    let modes : Modes = modes_in c.args.modes.now in
    let cluster : c.last_cluster-cluster.result.now ≡ last_cluster modes.last = c.last_cluster-cluster.ensures ∙ ap last_cluster c.deref.ensures in
    let a = c.loop.invariant last in
    let test = c.loop-test.true in
    let more : c.args.count - c.loop.counter ≡ suc (c.args.count - (c.loop.counter + 1)) = omega (arith, test) in
    again_next (λ w. g.W.Widths.width_of w) modes c.args.surface.now c.loop.surface c.put_cluster.new.surface c.args.count (c.args.count - c.loop.counter) (c.args.count - (c.loop.counter + 1)) (Ok tt) more refl a
    (puts (λ w. g.W.Widths.width_of w) modes c.loop.surface c.put_cluster.new.surface c.last_cluster-cluster.result.now (Ok tt) cluster c.in_ok-put_cluster.ensures a.can)

pub returns-clause-added : goal.returns-clause-added
returns-clause-added g c = λ last.
    let ends = c.loop.auto.counter-end in
    let over = c.loop-test.false in
    let none : c.args.count - c.loop.counter ≡ 0 = omega (arith, over) in
    again_ends (λ w. g.W.Widths.width_of w) (modes_in c.args.modes.now) c.args.surface.now c.loop.surface c.args.count (c.args.count - c.loop.counter) none (c.loop.invariant last)

use Rattle.std.proofs.Common.{Result, Err, ◌≡◌, ℕ, List, sym, ap, subst, ◌∙◌}
use Rattle.std.proofs.lemmas.Result.{err_from_is_err_and}
use Rattle.cell_surface.specs.declared.error.SurfaceError.{SurfaceError}
use Rattle.escape_framing.specs.Held.{held_of}
use Rattle.escape_stream.specs.Items.{items}
use Rattle.escape_stream.specs.declared.perform.Halted.{Halted}
use Rattle.escape_stream.specs.declared.perform.Halted.TheVariants as halted
use Rattle.terminal_steps.specs.Items.{Leads}
use Rattle.terminal.specs.Terminal.{Terminal, IsSpelled}
use Rattle.terminal.proofs.GoLemmas.{fed, fed_memory, fed_ready, fed_reached, fed_past, fed_sound, with_parts}
use Rattle.terminal.proofs.SpellLemmas.{fed_spelled}
use Rattle.terminal_steps.specs.Refusals.{of_halted}
use Rattle.terminal_steps.specs.declared.error.TerminalError.TheVariants.{Failed, Memory, Number}
use Rattle.terminal_steps.proofs.MemoryLemmas.{halted_memory}
use Rattle.terminal_steps.proofs.TakeLemmas.{leads}
use Rattle.terminal_steps.proofs.NumberLemmas.{halted_number, halted_ready}
use Rattle.terminal.proofs.terminal.Terminal.feed.Goals as goal

pub returns-in_err-hand_to-clause-failed : goal.returns-in_err-hand_to-clause-failed
returns-in_err-hand_to-clause-failed g c =
    let p = err_from_is_err_and c.from_residual.result c.from_residual.ensures.1 in
    let can = c.self.invariant c.if-self.false in
    let whole = sym (ap (λ (t : Terminal g.row.W.Denot). t.is_failed) c.self.view_is) ∙ c.if-self.false in
    rw (p.1, p.2) (
      (λ e.
          let is : of_halted c.in_err-hand_to.field-0.0 ≡ Failed = cc in
          absurd (fed_sound (λ w. g.W.Widths.width_of w) c.self.inside.state c.self.inside.parser.held c.args.piece.now can.reached can.ready (λ stream at.
          halted_ready (λ w. g.W.Widths.width_of w) c.self.inside.state c.hand_to.new.performer (items stream c.args.piece.now) c.in_err-hand_to.field-0.0 is (λ f.
          let refused : ◌≡◌ {A = Result (Unit {0}) (Halted SurfaceError)} (Err c.in_err-hand_to.field-0.0) (Err halted.Failed) = cc in
          let failed = c.in_err-hand_to.ensures.failed.0 refused in
          let stays = can.parser in
          cc) (c.in_err-hand_to.ensures.halted stream at)))),
      (λ e. absurd cc),
    )

pub returns-in_err-hand_to-clause-number : goal.returns-in_err-hand_to-clause-number
returns-in_err-hand_to-clause-number g c =
    let p = err_from_is_err_and c.from_residual.result c.from_residual.ensures.1 in
    let can = c.self.invariant c.if-self.false in
    rw (p.1, p.2) (λ e.
    let is : of_halted c.in_err-hand_to.field-0.0 ≡ Number = cc in
    fed_past (λ w. g.W.Widths.width_of w) c.self.inside.state c.self.inside.parser.held c.args.self.now c.args.piece.now can.ready
    ((λ i. record (with_parts c.self.inside.state c.self.inside.parser.held) { is_failed = sym c.if-self.false i }) ∙ c.self.view_is)
    (λ stream at. halted_number (λ w. g.W.Widths.width_of w) c.self.inside.state c.hand_to.new.performer (items stream c.args.piece.now) c.in_err-hand_to.field-0.0 is (c.in_err-hand_to.ensures.halted stream at)))

pub returns-in_err-hand_to-clause-memory : goal.returns-in_err-hand_to-clause-memory
returns-in_err-hand_to-clause-memory g c =
    let p = err_from_is_err_and c.from_residual.result c.from_residual.ensures.1 in
    let can = c.self.invariant c.if-self.false in
    rw (p.1, p.2) (λ e.
    let is : of_halted c.in_err-hand_to.field-0.0 ≡ Memory = cc in
    fed_memory (λ w. g.W.Widths.width_of w) c.self.inside.state c.self.inside.parser.held c.args.self.now c.args.piece.now c.hand_to.new.performer.surface.is_failed can.ready
    ((λ i. record (with_parts c.self.inside.state c.self.inside.parser.held) { is_failed = sym c.if-self.false i }) ∙ c.self.view_is)
    (λ stream at. halted_memory (λ w. g.W.Widths.width_of w) c.self.inside.state c.hand_to.new.performer stream c.args.piece.now c.in_err-hand_to.field-0.0 is
    (λ m.
    let refused : ◌≡◌ {A = Result (Unit {0}) (Halted SurfaceError)} (Err c.in_err-hand_to.field-0.0) (Err halted.Memory) = cc in
    c.in_err-hand_to.ensures.early refused stream at)
    (c.in_err-hand_to.ensures.halted stream at)))

pub invariant_of-self-2 : goal.invariant_of-self-2
invariant_of-self-2 g c =
    let can = c.self.invariant c.if-self.false in
    let takes : (stream : List ℕ) → c.self.inside.parser.held ≡ held_of stream → Leads (λ w. g.W.Widths.width_of w) c.self.inside.state c.hand_to.new.performer (items stream c.args.piece.now)
    = λ stream at. leads (λ w. g.W.Widths.width_of w) c.self.inside.state c.hand_to.new.performer (items stream c.args.piece.now) (c.in_ok-hand_to.ensures.done stream at) in
    λ e. record {
      ready = fed_ready (λ w. g.W.Widths.width_of w) c.self.inside.state c.hand_to.new.performer c.self.inside.parser.held c.args.piece.now can.reached can.ready takes;
      parser = c.in_ok-hand_to.ensures.after;
      reached = fed_reached (λ w. g.W.Widths.width_of w) c.self.inside.parser.held c.hand_to.new.self.held c.args.piece.now can.reached c.in_ok-hand_to.ensures.held;
      spelled = fed_spelled (λ w. g.W.Widths.width_of w) c.self.inside.state c.hand_to.new.performer c.self.inside.parser.held c.hand_to.new.self.held c.args.piece.now can.reached can.ready
          (subst IsSpelled (λ i. record (with_parts c.self.inside.state c.self.inside.parser.held) { is_failed = c.if-self.false i }) can.spelled)
          takes c.in_ok-hand_to.ensures.held;
    }

pub returns-clause-done : goal.returns-clause-done
returns-clause-done g c =
    let can = c.self.invariant c.if-self.false in
    fed (λ w. g.W.Widths.width_of w) c.self.inside.state c.hand_to.new.performer c.self.inside.parser.held c.hand_to.new.self.held c.args.self.now c.args.piece.now can.reached can.ready
    ((λ i. record (with_parts c.self.inside.state c.self.inside.parser.held) { is_failed = sym c.if-self.false i }) ∙ c.self.view_is)
    (λ stream at. leads (λ w. g.W.Widths.width_of w) c.self.inside.state c.hand_to.new.performer (items stream c.args.piece.now) (c.in_ok-hand_to.ensures.done stream at)) c.in_ok-hand_to.ensures.held

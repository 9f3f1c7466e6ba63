use Rattle.std.proofs.Common.{◌≡◌, ◌∙◌, ◌∷◌, [], List, sym, ap, subst, refl}
use Rattle.std.specs.Prelude.{ℕ, true}
use Rattle.std.specs.String.{string_bytes}
use Rattle.cell_base.specs.Screen.{Screen}
use Rattle.cell_surface.specs.Surface.{shown_by}
use Rattle.screen_change.specs.ChangeValue.{ChangeValue}
use Rattle.terminal_table.specs.Changes.{run_change}
use Rattle.terminal_table.specs.Charsets.{Charset, charset_in_use, text_in}
use Rattle.terminal_table.specs.Modes.{Modes}
use Rattle.terminal_table.specs.Runs.{run_done, text_as}
use Rattle.xterm_steps.specs.Additions.{AddsWith}
use Rattle.terminal_steps.specs.ProfileView.{charset_in, modes_in}
use Rattle.terminal_steps.specs.RunView.{CanBePut}
use Rattle.terminal_steps.proofs.RunLemmas.{can_put_in, mapped_text, with_more}
use Rattle.terminal_steps.proofs.runs.put_run.Goals as goal

pub is_put_as_one-requires : goal.is_put_as_one-requires
is_put_as_one-requires g c = mapped_text (charset_in c.charset_in_use.result) c.args.text c.deref.result.now (c.deref.ensures ∙ c.in_ok-text.ensures) c.requires.some

pub returns-then-is_put_as_one-clause-puts : goal.returns-then-is_put_as_one-clause-puts
returns-then-is_put_as_one-clause-puts g c = λ can.
    let modes : Modes = modes_in c.args.modes.now in
    let set : Charset = charset_in_use modes.charsets in
    let of = g.W.Widths.width_of c.args.surface.now.grid.widths in
    let screen : Screen = (shown_by c.args.surface.now).screen in
    let text : List ℕ = string_bytes c.args.text in
    let mapped : c.deref.result.now ≡ text_as modes text = c.deref.ensures ∙ c.in_ok-text.ensures ∙ ap (λ (s : Charset). text_in s text) c.charset_in_use.ensures in
    let there : CanBePut (λ w. g.W.Widths.width_of w) c.args.surface.now c.deref.result.now = subst (CanBePut (λ w. g.W.Widths.width_of w) c.args.surface.now) (sym mapped) (can_put_in (λ w. g.W.Widths.width_of w) set c.args.surface.now text can) in
    let whole = c.if-is_put_as_one.ensures refl modes c.on-frame.ensures there in
    let same : (run_done modes of screen (text_as modes text)).changes ≡ run_change (string_bytes c.in_ok-text.text) ∷ []
    = ap (λ (t : List ℕ). (run_done modes of screen t).changes) (sym mapped) ∙ whole ∙ ap (λ (t : List ℕ). run_change t ∷ []) c.deref.ensures in
    subst (λ (xs : List ChangeValue). AddsWith true (λ w. g.W.Widths.width_of w) c.args.surface.now xs c.add_run.result c.add_run.new.surface) (sym same)
    (with_more (λ w. g.W.Widths.width_of w) c.args.surface.now c.add_run.new.surface (run_change (string_bytes c.in_ok-text.text) ∷ []) c.add_run.result c.add_run.ensures)

pub put_clusters-put-requires-clause-some : goal.put_clusters-put-requires-clause-some
put_clusters-put-requires-clause-some g c = mapped_text (charset_in c.charset_in_use.result) c.args.text c.deref-2.result.now (c.deref-2.ensures ∙ c.in_ok-text.ensures) c.requires.some

pub returns-clause-puts : goal.returns-clause-puts
returns-clause-puts g c = λ can.
    let modes : Modes = modes_in c.args.modes.now in
    let set : Charset = charset_in_use modes.charsets in
    let of = g.W.Widths.width_of c.args.surface.now.grid.widths in
    let screen : Screen = (shown_by c.args.surface.now).screen in
    let text : List ℕ = string_bytes c.args.text in
    let mapped : c.deref-2.result.now ≡ text_as modes text = c.deref-2.ensures ∙ c.in_ok-text.ensures ∙ ap (λ (s : Charset). text_in s text) c.charset_in_use.ensures in
    let there : CanBePut (λ w. g.W.Widths.width_of w) c.args.surface.now c.deref-2.result.now = subst (CanBePut (λ w. g.W.Widths.width_of w) c.args.surface.now) (sym mapped) (can_put_in (λ w. g.W.Widths.width_of w) set c.args.surface.now text can) in
    subst (λ (t : List ℕ). AddsWith true (λ w. g.W.Widths.width_of w) c.args.surface.now (run_done modes of screen t).changes c.put_clusters-put.result c.put_clusters-put.new.surface) mapped (c.put_clusters-put.ensures c.on-frame.ensures there)

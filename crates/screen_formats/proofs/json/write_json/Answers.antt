use Rattle.std.proofs.Common.{◌++◌, ◌∙◌, ◌≤◌, List, ℕ, Some, ap, sym, subst}
use Rattle.std.specs.String.{string_bytes}
use Rattle.serde_json.specs.Data.{Data, depth}
use Rattle.serde_json.specs.Read.{max_depth, read}
use Rattle.serde_json.specs.Written.{compact_text, has_float}
use Rattle.cell_surface.specs.Surface.{shown_by}
use Rattle.screen_formats.proofs.JsonLemmas.{screen_plain, screen_shallow}
use Rattle.screen_formats.proofs.json.write_json.Goals as goal

pub returns-clause-text : goal.returns-clause-text
returns-clause-text g c =
    let value = c.in_ok-screen_value.ensures in
    let plain = ap has_float value ∙ screen_plain (shown_by c.args.surface.now).screen in
    c.in_ok-push_str.ensures.bytes ∙ ap (λ (t : List ℕ). string_bytes c.args.out.now ++ t) (c.deref.ensures ∙ c.in_ok-text.ensures.text plain ∙ ap compact_text value)

pub returns-clause-reads : goal.returns-clause-reads
returns-clause-reads g c =
    let value = c.in_ok-screen_value.ensures in
    let plain = ap has_float value ∙ screen_plain (shown_by c.args.surface.now).screen in
    let text = c.in_ok-text.ensures.text plain ∙ ap compact_text value in
    let shallow = subst (λ (d : Data). depth d ≤ max_depth) (sym value) (screen_shallow (shown_by c.args.surface.now).screen) in
    ap read (sym text) ∙ c.in_ok-text.ensures.reads_back shallow ∙ ap Some value

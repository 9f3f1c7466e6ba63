use Rattle.std.proofs.Common.{◌∙◌, ap, map, subst, sym}
use Rattle.std.specs.Prelude.{◌++◌}
use Rattle.std.proofs.lemmas.List.{length-map}
use Rattle.screen_change.specs.ChangeValue.{Title}
use Rattle.screen_change.specs.ValueOf.{value_of}
use Rattle.cell_surface.specs.Surface.{shown_by}
use Rattle.terminal_render.specs.Spelling.{HasEncoding, HaveEncodings}
use Rattle.terminal_viewers.specs.Encoding.{encoded_text, encoded_texts}
use Rattle.terminal_viewers.proofs.SendLemmas.{cells_have, patch_encoded, position_has, seen_has, spelled, title_has}
use Rattle.terminal_viewers.proofs.patch.patch.Goals as goal

pub encode_title-requires : goal.encode_title-requires
encode_title-requires g c =
    let old = (shown_by c.args.shown.now).screen in
    let new = (shown_by c.args.surface.now).screen in
    let width = c.of-encoder.result.width in
    let tall = c.of-encoder.result.height in
    let has = spelled (shown_by c.args.shown.now) (shown_by c.args.surface.now) (c.fresh_cells.ensures.lawful c.requires.shown) c.of-encoder.ensures.lawful c.requires.width
    (length-map c.args.shown.now.grid.lines (λ l. l.columns) ∙ c.requires.height ∙ sym (length-map c.args.surface.now.grid.lines (λ l. l.columns))) c.requires.sendable.spelled in
    subst (λ title. HasEncoding width tall (Title title)) (sym c.title.ensures) (title_has old new width tall c.of-encoder.ensures.width c.of-encoder.ensures.height has)

pub encode_all-requires : goal.encode_all-requires
encode_all-requires g c =
    let old = (shown_by c.args.shown.now).screen in
    let new = (shown_by c.args.surface.now).screen in
    let width = c.of-encoder.result.width in
    let tall = c.of-encoder.result.height in
    let has = spelled (shown_by c.args.shown.now) (shown_by c.args.surface.now) (c.fresh_cells.ensures.lawful c.requires.shown) c.of-encoder.ensures.lawful c.requires.width
    (length-map c.args.shown.now.grid.lines (λ l. l.columns) ∙ c.requires.height ∙ sym (length-map c.args.surface.now.grid.lines (λ l. l.columns))) c.requires.sendable.spelled in
    subst (HaveEncodings width tall) (sym (ap (map value_of) c.deref.ensures.value ∙ c.in_ok-changes.ensures.changes)) (cells_have old new width tall c.of-encoder.ensures.width c.of-encoder.ensures.height has)

pub encode_position_and_pen-requires-clause-spelled : goal.encode_position_and_pen-requires-clause-spelled
encode_position_and_pen-requires-clause-spelled g c =
    let old = (shown_by c.args.shown.now).screen in
    let new = (shown_by c.args.surface.now).screen in
    let width = c.of-encoder.result.width in
    let tall = c.of-encoder.result.height in
    let has = spelled (shown_by c.args.shown.now) (shown_by c.args.surface.now) (c.fresh_cells.ensures.lawful c.requires.shown) c.of-encoder.ensures.lawful c.requires.width
    (length-map c.args.shown.now.grid.lines (λ l. l.columns) ∙ c.requires.height ∙ sym (length-map c.args.surface.now.grid.lines (λ l. l.columns))) c.requires.sendable.spelled in
    position_has old new width tall c.of-encoder.ensures.width c.of-encoder.ensures.height has

pub encode_visibility-requires : goal.encode_visibility-requires
encode_visibility-requires g c =
    let old = (shown_by c.args.shown.now).screen in
    let new = (shown_by c.args.surface.now).screen in
    let width = c.of-encoder.result.width in
    let tall = c.of-encoder.result.height in
    let has = spelled (shown_by c.args.shown.now) (shown_by c.args.surface.now) (c.fresh_cells.ensures.lawful c.requires.shown) c.of-encoder.ensures.lawful c.requires.width
    (length-map c.args.shown.now.grid.lines (λ l. l.columns) ∙ c.requires.height ∙ sym (length-map c.args.surface.now.grid.lines (λ l. l.columns))) c.requires.sendable.spelled in
    seen_has old new width tall c.of-encoder.ensures.width c.of-encoder.ensures.height has

pub returns : goal.returns
returns g c =
    let old = (shown_by c.args.shown.now).screen in
    let new = (shown_by c.args.surface.now).screen in
    let width = c.of-encoder.result.width in
    let tall = c.of-encoder.result.height in
    let has = spelled (shown_by c.args.shown.now) (shown_by c.args.surface.now) (c.fresh_cells.ensures.lawful c.requires.shown) c.of-encoder.ensures.lawful c.requires.width
    (length-map c.args.shown.now.grid.lines (λ l. l.columns) ∙ c.requires.height ∙ sym (length-map c.args.surface.now.grid.lines (λ l. l.columns))) c.requires.sendable.spelled in
    patch_encoded old new width tall c.of-encoder.ensures.width c.of-encoder.ensures.height has c.new-bytes.result.items c.encode_title.new.bytes.items c.encode_all.new.bytes.items c.encode_position_and_pen.new.bytes.items c.encode_visibility.new.bytes.items
    c.new-bytes.ensures.items
    (c.in_ok-encode_title.ensures.ok ∙ ap (λ title. c.new-bytes.result.items ++ encoded_text width tall (Title title)) c.title.ensures)
    (c.in_ok-encode_all.ensures.ok ∙ ap (λ changes. c.encode_title.new.bytes.items ++ encoded_texts width tall changes) (ap (map value_of) c.deref.ensures.value ∙ c.in_ok-changes.ensures.changes))
    c.in_ok-encode_position_and_pen.ensures c.in_ok-encode_visibility.ensures

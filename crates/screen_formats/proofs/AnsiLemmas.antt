-- Rows with the cursor, one after another.
use Rattle.std.proofs.Common.{◌≡◌, ℕ, ◌+◌, ◌<◌, List, [], ◌∷◌, ◌++◌, length, map, take, get_or, sym, ap, ◌∙◌, arith, append_assoc}
use Rattle.std.proofs.lemmas.List.{append-nil, length-take, map-append, take_more}
use Rattle.cell_base.specs.Row.{Row}
use Rattle.cell_base.specs.Screen.{Screen}
use Rattle.cell_line.specs.LineContent.{LineContent}
use Rattle.screen_formats.specs.Ansi.{ansi_row_at, ansi_rows, cursor_in}
use Rattle.screen_formats.proofs.SvgLemmas.{length-columns}

rows_next : (screen : Screen) (at : ℕ) (rows : List Row) (next : Row) (last : ℕ) → last ≡ at + length rows
    → ansi_rows screen at rows ++ ansi_row_at (cursor_in screen last) next ≡ ansi_rows screen at (rows ++ next ∷ [])
rows_next screen at [] next last e =
    let same : last ≡ at = omega (arith, e) in
    ap (λ n. ansi_row_at (cursor_in screen n) next) same ∙ sym (append-nil (ansi_row_at (cursor_in screen at) next))
rows_next screen at (row ∷ rows) next last e =
    append_assoc (ansi_row_at (cursor_in screen at) row) (ansi_rows screen (at + 1) rows) (ansi_row_at (cursor_in screen last) next)
    ∙ ap (λ (t : List ℕ). ansi_row_at (cursor_in screen at) row ++ t) (rows_next screen (at + 1) rows next last (omega (arith, e)))

taken_next : (screen : Screen) (lines : List LineContent) (i : ℕ) (line : LineContent) → i < length lines → get_or lines i line ≡ line
    → ansi_rows screen 0 (map (λ line. line.columns) (take i lines)) ++ ansi_row_at (cursor_in screen i) line.columns
    ≡ ansi_rows screen 0 (map (λ line. line.columns) (take (i + 1) lines))
taken_next screen lines i line less item =
    let count : i ≡ 0 + length (map (λ (line : LineContent). line.columns) (take i lines)) = omega (arith, length-columns (take i lines), length-take i lines) in
    rows_next screen 0 (map (λ line. line.columns) (take i lines)) line.columns i count
    ∙ ap (ansi_rows screen 0) (
    sym (map-append (λ (line : LineContent). line.columns) (take i lines) (line ∷ []))
    ∙ ap (λ (l : LineContent). map (λ (line : LineContent). line.columns) (take i lines ++ l ∷ [])) (sym item)
    ∙ ap (map (λ (line : LineContent). line.columns)) (sym (take_more lines i line less))
    )

-- the next line's row after those before it
pub row_written : (screen : Screen) (lines : List LineContent) (i : ℕ) (line : LineContent) (start now next : List ℕ) → i < length lines → get_or lines i line ≡ line
    → now ≡ start ++ ansi_rows screen 0 (map (λ line. line.columns) (take i lines)) → next ≡ now ++ ansi_row_at (cursor_in screen i) line.columns
    → next ≡ start ++ ansi_rows screen 0 (map (λ line. line.columns) (take (i + 1) lines))
row_written screen lines i line start now next less item so_far step =
    step
    ∙ ap (λ (t : List ℕ). t ++ ansi_row_at (cursor_in screen i) line.columns) so_far
    ∙ append_assoc start (ansi_rows screen 0 (map (λ line. line.columns) (take i lines))) (ansi_row_at (cursor_in screen i) line.columns)
    ∙ ap (λ (t : List ℕ). start ++ t) (taken_next screen lines i line less item)

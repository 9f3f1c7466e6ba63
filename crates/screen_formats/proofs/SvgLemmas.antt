-- Rows of a picture, one after another.
use Rattle.std.proofs.Common.{◌≡◌, ℕ, ◌+◌, ◌<◌, List, [], ◌∷◌, ◌++◌, length, map, take, get_or, sym, ap, ◌∙◌, arith, append_assoc}
use Rattle.std.proofs.lemmas.List.{append-nil, length-map, length-take, map-append, take_more}
use Rattle.cell_base.specs.Row.{Row}
use Rattle.cell_line.specs.LineContent.{LineContent}
use Rattle.screen_formats.specs.Tokens.{Token, tokens_text}
use Rattle.screen_formats.specs.Svg.{svg_row, svg_rows}
use Rattle.screen_formats.specs.declared.escape.Markup.TheVariants.{Xml}
use Rattle.screen_formats.proofs.TokenLemmas.{written_more}

svg_rows_next : (at : ℕ) (rows : List Row) (next : Row) (last : ℕ) → last ≡ at + length rows → svg_rows at rows ++ svg_row last next ≡ svg_rows at (rows ++ next ∷ [])
svg_rows_next at [] next last e =
    let same : last ≡ at = omega (arith, e) in
    ap (λ n. svg_row n next) same ∙ sym (append-nil (svg_row at next))
svg_rows_next at (row ∷ rows) next last e =
    append_assoc (svg_row at row) (svg_rows (at + 1) rows) (svg_row last next)
    ∙ ap (λ (t : List Token). svg_row at row ++ t) (svg_rows_next (at + 1) rows next last (omega (arith, e)))

pub length-columns : (lines : List LineContent) → length (map (λ line. line.columns) lines) ≡ length lines
length-columns lines = length-map lines (λ line. line.columns)

taken_next : (lines : List LineContent) (i : ℕ) (line : LineContent) → i < length lines → get_or lines i line ≡ line
    → svg_rows 0 (map (λ line. line.columns) (take i lines)) ++ svg_row i line.columns ≡ svg_rows 0 (map (λ line. line.columns) (take (i + 1) lines))
taken_next lines i line less item =
    let count : i ≡ 0 + length (map (λ (line : LineContent). line.columns) (take i lines)) = omega (arith, length-columns (take i lines), length-take i lines) in
    svg_rows_next 0 (map (λ line. line.columns) (take i lines)) line.columns i count
    ∙ ap (svg_rows 0) (
    sym (map-append (λ (line : LineContent). line.columns) (take i lines) (line ∷ []))
    ∙ ap (λ (l : LineContent). map (λ (line : LineContent). line.columns) (take i lines ++ l ∷ [])) (sym item)
    ∙ ap (map (λ (line : LineContent). line.columns)) (sym (take_more lines i line less))
    )

-- the next line's row after those before it
pub row_written : (lines : List LineContent) (i : ℕ) (line : LineContent) (start now next : List ℕ) → i < length lines → get_or lines i line ≡ line
    → now ≡ start ++ tokens_text Xml (svg_rows 0 (map (λ line. line.columns) (take i lines))) → next ≡ now ++ tokens_text Xml (svg_row i line.columns)
    → next ≡ start ++ tokens_text Xml (svg_rows 0 (map (λ line. line.columns) (take (i + 1) lines)))
row_written lines i line start now next less item so_far step =
    written_more Xml start now next (svg_rows 0 (map (λ line. line.columns) (take i lines))) (svg_row i line.columns) so_far step
    ∙ ap (λ tokens. start ++ tokens_text Xml tokens) (taken_next lines i line less item)

use Rattle.std.proofs.Common.{◌∙◌, ap, sym, false}
use Rattle.std.specs.Prelude.{min}
use Rattle.std.proofs.lemmas.Str.{IsUtf8-encode}
use Rattle.unicode_segmentation.proofs.TextLemmas.{chars-encode_utf8}
use Rattle.unicode_width.specs.Width.{str_width}
use Rattle.cell_base.specs.Cluster.{program_width}
use Rattle.cell_base.proofs.widths.single_columns.Goals as goal

pub returns-then-character-gt160 : goal.returns-then-character-gt160
unfolding program_width
returns-then-character-gt160 c =
    c.character_columns.ensures ∙ ap (λ cs. min (str_width false cs) 2) (sym (chars-encode_utf8 c.args.character (IsUtf8-encode c.args.character c.ranges.character.0)))

use Rattle.screen_formats.specs.declared.escape.Markup.TheVariants.{Xml}
use Rattle.screen_formats.proofs.TokenLemmas.{written_more}
use Rattle.screen_formats.proofs.svg.push_end.Goals as goal

pub returns : goal.returns
returns c = written_more Xml _ _ _ _ _ c.in_ok-push_closing.ensures c.in_ok-push_words.ensures

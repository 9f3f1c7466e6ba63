use Rattle.std.proofs.Common.{refl}
use Rattle.cell_base.specs.LinkText.{link_reading, texts_reading}
use Rattle.cell_base.proofs.LinkLaws.{written_back}
use Rattle.escape_osc.proofs.laws.links_read_back.Goals as goal

pub returns-clause-link : goal.returns-clause-link
returns-clause-link c = λ link is. written_back link is.texts is.uri is.sorted is.given is.some is.plain

pub returns-clause-end_of_link : goal.returns-clause-end_of_link
unfolding link_reading texts_reading
returns-clause-end_of_link c = refl

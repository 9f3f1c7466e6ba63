use Rattle.screen_change.proofs.TextLemmas.{bytes_of_texts, clusters_of_texts}
use Rattle.screen_change.proofs.laws.joined_texts_show_the_cells.Goals as goal

pub returns-clause-bytes : goal.returns-clause-bytes
returns-clause-bytes c = bytes_of_texts

pub returns-clause-clusters : goal.returns-clause-clusters
returns-clause-clusters c = clusters_of_texts

use Rattle.escape_osc.proofs.SizeLemmas.{texts_take_six, links_take_seven, end_of_link_takes_seven, selections_are_short, all_selections_take_most}
use Rattle.escape_osc.proofs.laws.text_lengths.Goals as goal

pub returns : goal.returns
returns c = record {
  texts = texts_take_six;
  links = links_take_seven;
  end_of_link = end_of_link_takes_seven;
  selections = selections_are_short;
  all_selections = all_selections_take_most;
}

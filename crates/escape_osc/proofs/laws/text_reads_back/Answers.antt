use Rattle.std.proofs.Common.{refl}
use Rattle.text_clusters.specs.Controls.{holds_c1}
use Rattle.escape_osc.specs.Command.{set_icon_name_and_window_title, set_icon_name, set_window_title, current_working_directory}
use Rattle.escape_osc.proofs.ReadBack.{code_text_back, zero_is_text, one_is_text, two_is_text, seven_is_text}
use Rattle.escape_osc.proofs.laws.text_reads_back.Goals as goal

pub returns : goal.returns
unfolding holds_c1
returns c = record {
  icon_name_and_title = code_text_back set_icon_name_and_window_title 48 c.args.text.now refl refl c.utf8.text c.requires zero_is_text;
  icon_name = code_text_back set_icon_name 49 c.args.text.now refl refl c.utf8.text c.requires one_is_text;
  title = code_text_back set_window_title 50 c.args.text.now refl refl c.utf8.text c.requires two_is_text;
  directory = code_text_back current_working_directory 55 c.args.text.now refl refl c.utf8.text c.requires seven_is_text;
}

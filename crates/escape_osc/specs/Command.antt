-- An operating system command as a value: texts as bytes, selections as their bits.
use Rattle.std.specs.Prelude.{ℕ, List, Option}
use Rattle.cell_base.specs.Link.{Link}

-- a constructor for each variant of `OperatingSystemCommand`
pub data Command : Type 0 where
  set_icon_name_and_window_title : (text : List ℕ) → Command
  set_icon_name : (text : List ℕ) → Command
  set_window_title : (text : List ℕ) → Command
  current_working_directory : (text : List ℕ) → Command
  set_hyperlink : (link : Option Link) → Command
  set_selection : (bits : ℕ) (text : List ℕ) → Command
  query_selection : (bits : ℕ) → Command
  clear_selection : (bits : ℕ) → Command
  unspecified : (parts : List (List ℕ)) → Command

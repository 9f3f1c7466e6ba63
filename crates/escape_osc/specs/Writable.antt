-- Commands that can be written: their text reads back as the command itself, and a byte stream carries it unchanged.
use Rattle.std.specs.Prelude.{◌≡◌, ℕ, ◌<◌, ◌-◌, ◌^◌, true, false, List, Option, None, Ok}
use Rattle.std.specs.List.{list_any, list_all, AllByRecursion}
use Rattle.std.specs.List.Sorted.{IsStrictlySortedBy}
use Rattle.std.specs.Map.{keys_of}
use Rattle.std.specs.Ordering.{nat_cmp}
use Rattle.std.specs.Cmp.Lexicographic.{slice_cmp}
use Rattle.std.specs.Int.RustNames.{bit_and}
use Rattle.std.specs.Str.{IsUtf8}
use Rattle.std.specs.Char.{is_ascii_control}
use Rattle.text_clusters.specs.Controls.{holds_c1}
use Rattle.cell_base.specs.Link.{Link}
use Rattle.cell_base.specs.LinkText.{link_reading, text_of_link, is_writable, is_empty_link}
use Rattle.escape_osc.specs.Command.{Command, set_icon_name_and_window_title, set_icon_name, set_window_title}
use Rattle.escape_osc.specs.Command.{current_working_directory, set_hyperlink, set_selection, query_selection}
use Rattle.escape_osc.specs.Command.{clear_selection, unspecified}
use Rattle.escape_osc.specs.Parts.{parts_of, joined}
use Rattle.escape_osc.specs.Reading.{fitting_reading, osc_reading}
use Rattle.escape_osc.specs.Text.{body_of}

-- a command reads back equal from its body
abbrev pub ReadsBack : Command → Type 0
ReadsBack command = osc_reading (parts_of (body_of command)) ≡ command

-- a text holds no control of any kind: no C0 control, no DEL, and no U+0080 to U+009F
pub record LacksControls (text : List ℕ) : Type 0 where
  pub no_c0 : list_any is_ascii_control text ≡ false
  pub no_c1 : holds_c1 text ≡ false

-- a set of selections that letters name: of bits 1 to 13, and not empty
pub record IsSelection (bits : ℕ) : Type 0 where
  pub named : bit_and bits (2 ^ 14 - 2) ≡ bits
  pub some : 0 < bits

-- a link, or the end of one, that reads back equal from its own text
abbrev pub IsReadableLink : Option Link → Type 0
IsReadableLink link = link_reading (parts_of (text_of_link link)) ≡ Ok link

-- a link by value, given by a program, with a URI or parameters: keys and values are UTF-8, hold no separator of the
-- text, and are in the order of the keys
pub record IsLink (link : Link) : Type 0 where
  pub texts : AllByRecursion (λ param. IsUtf8 param.0 × IsUtf8 param.1) link.params
  pub plain : list_all is_writable link.params ≡ true
  pub sorted : IsStrictlySortedBy (slice_cmp nat_cmp) (keys_of link.params)
  pub uri : IsUtf8 link.uri
  pub given : link.implicit ≡ false
  pub some : is_empty_link link ≡ false

-- a command by value: a text that is UTF-8, a link that reads back from its text, selections that have letters, or
-- parts that fit no code and that a body can be cut into
abbrev pub HasSpelling : Command → Type 0
HasSpelling (set_icon_name_and_window_title text) = IsUtf8 text
HasSpelling (set_icon_name text) = IsUtf8 text
HasSpelling (set_window_title text) = IsUtf8 text
HasSpelling (current_working_directory text) = IsUtf8 text
HasSpelling (set_hyperlink link) = IsReadableLink link
HasSpelling (set_selection bits text) = IsSelection bits × IsUtf8 text
HasSpelling (query_selection bits) = IsSelection bits
HasSpelling (clear_selection bits) = IsSelection bits
HasSpelling (unspecified parts) = (parts_of (joined parts) ≡ parts) × (fitting_reading parts ≡ None)

-- a command that has a spelling and whose body holds no control
pub record IsWritable (command : Command) : Type 0 where
  pub spelling : HasSpelling command
  pub clean : LacksControls (body_of command)

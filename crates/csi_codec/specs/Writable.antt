-- Values that can be written: their text reads back as the value itself. The other values of these types are a count
-- or a position of 0, an alternate font that is not 1 to 9, a mode by a number that has a name, and the rest of a list.
use Rattle.std.specs.Prelude.{◌≡◌, ℕ, ◌≤◌, ◌⊎◌, pos, Bool, Option, Some, None}
use Rattle.cell_base.specs.declared.color.ColorSpec.{ColorSpec}
use Rattle.cell_base.specs.declared.color.ColorSpec.TheVariants as color
use Rattle.csi_codec.specs.declared.cursors.Cursor.{Cursor}
use Rattle.csi_codec.specs.declared.edits.Edit.{Edit}
use Rattle.csi_codec.specs.declared.modes.DecPrivateMode.{DecPrivateMode}
use Rattle.csi_codec.specs.declared.modes.DecPrivateMode.TheVariants as private
use Rattle.csi_codec.specs.declared.modes.TerminalMode.{TerminalMode}
use Rattle.csi_codec.specs.declared.modes.TerminalMode.TheVariants as standard
use Rattle.csi_codec.specs.declared.modes.Mode.{Mode}
use Rattle.csi_codec.specs.declared.modes.Mode.TheVariants as does
use Rattle.csi_codec.specs.declared.rendition.Font.TheVariants as font
use Rattle.csi_codec.specs.declared.rendition.Sgr.{Sgr}
use Rattle.csi_codec.specs.declared.rendition.Sgr.TheVariants as value
use Rattle.csi_codec.specs.Slots.{AreCoordinates}
use Rattle.csi_codec.specs.Cursors.{cursor_slots}
use Rattle.csi_codec.specs.Edits.{edit_slots}
use Rattle.csi_codec.specs.Modes.{dec_private_mode_named, terminal_mode_named}
use Rattle.csi_codec.specs.Actions.{Action, sgr, cursor, edit, mode, device, unspecified, spelling_of}
use Rattle.csi_codec.specs.Laws.{ReadsBack}
use Rattle.csi_codec.specs.Sequences.{csi_text}
use Rattle.csi_codec.specs.Prefixes.{HasPrefix, whole_prefix}

-- ---- Control sequences

-- a cursor sequence or an edit with counts and positions from 1 to the largest value of a parameter
abbrev pub IsWritableCursor : Cursor → Type 0
IsWritableCursor c = AreCoordinates (cursor_slots c).0

abbrev pub IsWritableEdit : Edit → Type 0
IsWritableEdit e = AreCoordinates (edit_slots e).0

-- a mode by its name, or by a number that has none
abbrev pub IsWritablePrivateMode : DecPrivateMode → Type 0
IsWritablePrivateMode (private.Code known) = Unit {0}
IsWritablePrivateMode (private.Unspecified n) = (n ≤ 65535) × (dec_private_mode_named (pos n) ≡ None)

abbrev pub IsWritableStandardMode : TerminalMode → Type 0
IsWritableStandardMode (standard.Code known) = Unit {0}
IsWritableStandardMode (standard.Unspecified n) = (n ≤ 65535) × (terminal_mode_named (pos n) ≡ None)

abbrev pub IsWritableMode : Mode → Type 0
IsWritableMode (does.SetDecPrivateMode m) = IsWritablePrivateMode m
IsWritableMode (does.ResetDecPrivateMode m) = IsWritablePrivateMode m
IsWritableMode (does.SaveDecPrivateMode m) = IsWritablePrivateMode m
IsWritableMode (does.RestoreDecPrivateMode m) = IsWritablePrivateMode m
IsWritableMode (does.SetMode m) = IsWritableStandardMode m
IsWritableMode (does.ResetMode m) = IsWritableStandardMode m

-- a colour whose numbers are bytes, as those of every `ColorSpec` in Rust code are
abbrev pub IsColour : ColorSpec → Type 0
IsColour color.Default = Unit {0}
IsColour (color.PaletteIndex n) = n ≤ 255
IsColour (color.TrueColor c) = (c.0 ≤ 255) × (c.1 ≤ 255) × (c.2 ≤ 255) × (c.3 ≤ 255)

-- the default font or alternate 1 to 9, any colour, and every other setting
abbrev pub IsWritableSgr : Sgr → Type 0
IsWritableSgr (value.Font (font.Alternate n)) = (1 ≤ n) × (n ≤ 9)
IsWritableSgr (value.Foreground c) = IsColour c
IsWritableSgr (value.Background c) = IsColour c
IsWritableSgr (value.UnderlineColor c) = IsColour c
IsWritableSgr _ = Unit {0}

-- an action that a program can build and write, which the rest of a list is not
abbrev pub IsWritable : Action → Type 0
IsWritable (sgr v) = IsWritableSgr v
IsWritable (cursor c) = IsWritableCursor c
IsWritable (edit e) = IsWritableEdit e
IsWritable (mode m) = IsWritableMode m
IsWritable (device d) = Unit {0}
IsWritable (unspecified params truncated final) = ⊥

-- ---- ESC pairs

-- the byte after ESC opens a control sequence or a string: [ ] P X ^ _
abbrev pub IsOpener : ℕ → Type 0
IsOpener b = (b ≡ 91) ⊎ (b ≡ 93) ⊎ (b ≡ 80) ⊎ (b ≡ 88) ⊎ (b ≡ 94) ⊎ (b ≡ 95)

-- bytes that an ESC pair can have: at most one intermediate, 20h to 2Fh, and a final byte, 30h to 7Eh
abbrev pub ArePairBytes : Option ℕ → ℕ → Type 0
ArePairBytes None final = (48 ≤ final) × (final ≤ 126) × (IsOpener final → ⊥)
ArePairBytes (Some between) final = (32 ≤ between) × (between ≤ 47) × (48 ≤ final) × (final ≤ 126)

-- ---- Laws

-- each action that can be written is the one action of the parameters and the final byte that are written for it
abbrev pub WritableActionsReadBack : Type 0
WritableActionsReadBack = (truncated : Bool) (a : Action) → IsWritable a → ReadsBack truncated a

-- the text of each is one sequence of these parameters and this final byte, with nothing after it
abbrev pub WritableTextsAreSequences : Type 0
WritableTextsAreSequences = (a : Action) → IsWritable a → HasPrefix (csi_text a) (whole_prefix (spelling_of a))

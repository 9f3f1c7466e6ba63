-- Invariants of a terminal by which each of its changes has an encoding. Spelled: that has an encoding.
use Rattle.std.specs.Prelude.{◌≡◌, ◌≢◌, ◌≤◌, ◌⊎◌, ⊤, ℕ, All, true, false, List, [], ◌∷◌, Option, Some, None}
use Rattle.std.specs.Str.{IsUtf8}
use Rattle.text_clusters.specs.Controls.{holds_c1}
use Rattle.cell_base.specs.declared.attributes.CursorShape.{CursorShape as Shape}
use Rattle.cell_base.specs.declared.attributes.Position.TheVariants.{Absolute}
use Rattle.cell_base.specs.declared.attributes.SemanticType.TheVariants.{Output}
use Rattle.cell_base.specs.declared.color.ColorAttribute.{ColorAttribute}
use Rattle.cell_base.specs.declared.color.ColorAttribute.TheVariants as attribute
use Rattle.cell_base.specs.Attributes.{Attributes}
use Rattle.cell_base.specs.AttributeValue as one
use Rattle.cell_base.specs.AttributeValue.{AttributeValue}
use Rattle.cell_base.specs.Row.{Row, Narrow, LeftHalf, RightHalf}
use Rattle.cell_base.specs.Screen.{Screen, height}
use Rattle.screen_change.specs.ChangeValue.{ChangeValue, Attribute, AllAttributes, Text, ClearScreen, ClearToEndOfLine}
use Rattle.screen_change.specs.ChangeValue.{ClearToEndOfScreen, CursorPosition, CursorShape, Title}
use Rattle.csi_codec.specs.Writable.{IsWritableSgr}
use Rattle.escape_stream.specs.StreamAction.{StreamAction, printed}
use Rattle.terminal_render.specs.Carried.{IsChange}
use Rattle.terminal_render.specs.Links.{is_carried, is_plain_text}
use Rattle.terminal_render.specs.Rendering.{rendering}
use Rattle.terminal_table.specs.Modes.{Modes, OtherScreen, SavedCursor}
use Rattle.terminal_table.specs.State.{State, IsState}
use Rattle.terminal_table.specs.Requests.{acted_changes}
use Rattle.terminal_table.specs.Functions as table
use Rattle.terminal_table.specs.Functions.{ControlFunction, function_of}
use Rattle.terminal_table.specs.History.{Event, Act}
use Rattle.terminal_table.specs.Meaning.{View}
use Rattle.terminal_table.specs.RunText.{IsPrinted}

-- a colour that SGR sets, with bytes for components: any except a true colour with a palette fallback
abbrev pub IsSpelledColor : ColorAttribute → Type 0
IsSpelledColor (attribute.TrueColorWithPaletteFallback color index) = ⊥
IsSpelledColor (attribute.TrueColorWithDefaultFallback c) = (c.0 ≤ 255) × (c.1 ≤ 255) × (c.2 ≤ 255) × (c.3 ≤ 255)
IsSpelledColor (attribute.PaletteIndex index) = index ≤ 255
IsSpelledColor attribute.Default = ⊤

-- attributes that SGR and OSC 8 set: not `wrapped`, of semantic type output, with a link that OSC 8 carries and colours
-- that SGR sets
pub record IsSpelledPen (pen : Attributes) : Type 0 where
  pub unwrapped : pen.wrapped ≡ false
  pub output : pen.semantic_type ≡ Output
  pub link : is_carried pen.hyperlink ≡ true
  pub foreground : IsSpelledColor pen.foreground
  pub background : IsSpelledColor pen.background
  pub underline : IsSpelledColor pen.underline_color

-- a text in UTF-8 without U+0080 to U+009F
pub record IsSpelledText (text : List ℕ) : Type 0 where
  pub utf8 : IsUtf8 text
  pub no_c1 : holds_c1 text ≡ false

-- a spelled text without C0 controls and DEL
pub record IsSpelledRun (text : List ℕ) : Type 0 where
  pub spelled : IsSpelledText text
  pub printed : IsPrinted text

-- a title in UTF-8 without controls of any kind
pub record IsSpelledTitle (title : List ℕ) : Type 0 where
  pub utf8 : IsUtf8 title
  pub plain : is_plain_text title ≡ true

-- each column has a spelled text and spelled attributes
abbrev pub IsSpelledRow : Row → Type 0
IsSpelledRow [] = ⊤
IsSpelledRow (Narrow text attributes ∷ row) = IsSpelledRun text × IsSpelledPen attributes × IsSpelledRow row
IsSpelledRow (LeftHalf text attributes ∷ row) = IsSpelledRun text × IsSpelledPen attributes × IsSpelledRow row
IsSpelledRow (RightHalf attributes ∷ row) = IsSpelledPen attributes × IsSpelledRow row

-- each row, the pen and the title are spelled
pub record IsSpelledScreen (screen : Screen) : Type 0 where
  pub rows : All IsSpelledRow screen.rows
  pub pen : IsSpelledPen screen.pen
  pub title : IsSpelledTitle screen.title

-- the pen of the saved cursor is spelled, if a cursor was saved
abbrev pub IsSpelledSaved : Option SavedCursor → Type 0
IsSpelledSaved None = ⊤
IsSpelledSaved (Some cursor) = IsSpelledPen cursor.pen

-- the cells of the screen that is not shown are spelled, and the pen of the cursor that was saved on it
pub record IsSpelledOther (other : OtherScreen) : Type 0 where
  pub rows : All IsSpelledRow other.rows
  pub cursor : IsSpelledSaved other.cursor

-- that screen is spelled, and the titles that were pushed, and the run before
pub record IsSpelledModes (modes : Modes) : Type 0 where
  pub other : IsSpelledOther modes.other
  pub titles : All IsSpelledTitle modes.titles
  pub last : IsSpelledText modes.last

-- these are, if the profile has them
abbrev pub AreSpelledModes : Option Modes → Type 0
AreSpelledModes None = ⊤
AreSpelledModes (Some modes) = IsSpelledModes modes

pub record IsSpelledState (state : State) : Type 0 where
  pub screen : IsSpelledScreen state.screen
  pub saved : IsSpelledSaved state.saved
  pub modes : AreSpelledModes state.modes

pub record IsSpelledView (view : View) : Type 0 where
  pub state : IsSpelledState view.state
  pub held : IsSpelledText view.held

-- ---- events

-- an SGR that can be written, so that the components of its colour are bytes; a link that OSC 8 carries; a spelled
-- title; any other control function
abbrev pub IsSpelledFunction : ControlFunction → Type 0
IsSpelledFunction (table.Rendition value) = IsWritableSgr value
IsSpelledFunction (table.Hyperlink link) = is_carried link ≡ true
IsSpelledFunction (table.Title text) = IsSpelledTitle text
IsSpelledFunction _ = ⊤

-- the control function that an action asks for is spelled, if it asks for one
abbrev pub IsSpelledRequest : Option ControlFunction → Type 0
IsSpelledRequest None = ⊤
IsSpelledRequest (Some function) = IsSpelledFunction function

-- an action that prints a spelled text, and has a spelled control function or none
abbrev pub IsSpelledEvent : Event → Type 0
IsSpelledEvent (Act action) = IsSpelledText (printed action) × IsSpelledRequest (function_of action)
IsSpelledEvent _ = ⊤

abbrev pub AreSpelledEvents : List Event → Type 0
AreSpelledEvents [] = ⊤
AreSpelledEvents (event ∷ events) = IsSpelledEvent event × AreSpelledEvents events

-- ---- changes

abbrev pub IsSpelledValue : AttributeValue → Type 0
IsSpelledValue (one.Foreground color) = IsSpelledColor color
IsSpelledValue (one.Background color) = IsSpelledColor color
IsSpelledValue (one.Hyperlink link) = is_carried link ≡ true
IsSpelledValue _ = ⊤

-- the text, attributes, colour or title that a change sets on a display are spelled
abbrev pub IsSpelledChange : ChangeValue → Type 0
IsSpelledChange (Attribute value) = IsSpelledValue value
IsSpelledChange (AllAttributes attributes) = IsSpelledPen attributes
IsSpelledChange (Text text) = IsSpelledText text
IsSpelledChange (ClearScreen color) = IsSpelledColor color
IsSpelledChange (ClearToEndOfLine color) = IsSpelledColor color
IsSpelledChange (ClearToEndOfScreen color) = IsSpelledColor color
IsSpelledChange (Title title) = IsSpelledTitle title
IsSpelledChange _ = ⊤

-- CR, LF, or CR LF
abbrev pub IsLineEnd : List ℕ → Type 0
IsLineEnd text = (text ≡ 13 ∷ []) ⊎ (text ≡ 10 ∷ []) ⊎ (text ≡ 13 ∷ 10 ∷ [])

-- a text without C0 controls and DEL, or a text that is a line end; any other change
abbrev pub IsLinePart : ChangeValue → Type 0
IsLinePart (Text text) = IsPrinted text ⊎ IsLineEnd text
IsLinePart _ = ⊤

-- a change that the code can hold (bytes for colour components, texts in UTF-8), a line part if it is a text, that has
-- an encoding for a terminal of a width and a height
pub record HasEncoding (width height : ℕ) (change : ChangeValue) : Type 0 where
  pub of_code : IsChange change
  pub part : IsLinePart change
  pub encoded : rendering change width height ≢ None

abbrev pub HaveEncodings : ℕ → ℕ → List ChangeValue → Type 0
HaveEncodings width height [] = ⊤
HaveEncodings width height (change ∷ changes) = HasEncoding width height change × HaveEncodings width height changes

-- the changes that are logged for an action that asks for something spelled have encodings at the size of the screen
-- before it: the third fact that all above asks of the terminal's table
abbrev pub ActionsHaveEncodings : Type 0
ActionsHaveEncodings =
    (width_of : List ℕ → ℕ) (action : StreamAction) (state : State) → IsState width_of state → IsSpelledState state
    → IsSpelledRequest (function_of action)
    → HaveEncodings state.screen.width (height state.screen) (acted_changes width_of action state)

-- a change that is left out of updates: the position of a pending wrap, or a shape of the cursor
abbrev pub IsLeftOut : Screen → ChangeValue → Type 0
IsLeftOut screen change =
    ((screen.column ≡ screen.width) × (change ≡ CursorPosition (Absolute screen.column) (Absolute screen.row)))
    ⊎ ((shape : Shape) × (change ≡ CursorShape shape))

-- each change that isn't left out has an encoding at the screen's size
abbrev pub HaveOtherEncodings : Screen → List ChangeValue → Type 0
HaveOtherEncodings screen [] = ⊤
HaveOtherEncodings screen (change ∷ changes) =
    (HasEncoding screen.width (height screen) change ⊎ IsLeftOut screen change) × HaveOtherEncodings screen changes

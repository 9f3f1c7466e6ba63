-- The actions that the readings give can be written.
use Rattle.std.proofs.Common.{◌≡◌, ℕ, ◌≤◌, ℤ, pos, negsuc, eqb, leb, Bool, true, false, cond, List, [], ◌∷◌, Option, Some, None, IfSome, option_map, option_and_then, slice_get, arith, refl, subst}
use Rattle.std.specs.Option.{option_map_or}
use Rattle.std.specs.List.{AllByRecursion}
use Rattle.std.proofs.lemmas.Bool.{leb-true, and_parts, cond_both}
use Rattle.cell_base.specs.declared.color.ColorSpec.{ColorSpec}
use Rattle.cell_base.specs.declared.color.ColorSpec.TheVariants as color
use Rattle.csi_codec.specs.declared.parameters.CsiParam.{CsiParam}
use Rattle.csi_codec.specs.declared.parameters.CsiParam.TheVariants.{Integer, P}
use Rattle.csi_codec.specs.declared.cursors.Cursor.{Cursor}
use Rattle.csi_codec.specs.declared.cursors.Cursor.TheVariants as variant
use Rattle.csi_codec.specs.declared.edits.Edit.{Edit}
use Rattle.csi_codec.specs.declared.edits.Edit.TheVariants as change
use Rattle.csi_codec.specs.declared.modes.DecPrivateModeCode.{DecPrivateModeCode}
use Rattle.csi_codec.specs.declared.modes.TerminalModeCode.{TerminalModeCode}
use Rattle.csi_codec.specs.declared.modes.DecPrivateMode.TheVariants as private
use Rattle.csi_codec.specs.declared.modes.TerminalMode.TheVariants as standard
use Rattle.csi_codec.specs.declared.modes.Mode.{Mode}
use Rattle.csi_codec.specs.declared.modes.Mode.TheVariants as does
use Rattle.csi_codec.specs.declared.rendition.Sgr.{Sgr}
use Rattle.csi_codec.specs.Parameters.{is_number, word_max, number_within, count, coordinate_pair, one_slot, slot_and_space, slot_number}
use Rattle.csi_codec.specs.Slots.{IsCoordinate}
use Rattle.csi_codec.specs.Cursors.{cursor_style_named, tabulation_clear_named, tabulation_control_named, cursor_lines, cursor_reading, save_or_margins, restore, position_request}
use Rattle.csi_codec.specs.Edits.{erase_in_line_named, erase_in_display_named, edit_lines, edit_reading}
use Rattle.csi_codec.specs.Modes.{dec_private_mode_named, dec_mode_of, terminal_mode_named, ansi_mode_of, private_step, standard_step, private_mode_reading, mode_reading}
use Rattle.csi_codec.specs.Rendition.{byte_of, byte_at, palette_at, opaque_at, colour_at, colour, colour_forms, is_alone, listed_or, sgr_tokens, single_codes, ranged_code, single_code, is_between, sgr_shape}
use Rattle.csi_codec.specs.Writable.{IsWritableCursor, IsWritableEdit, IsWritablePrivateMode, IsWritableStandardMode, IsWritableMode, IsColour, IsWritableSgr}
use Rattle.csi_codec.proofs.BackLemmas.{EachLine, read_by-each, made, count_valid, pair_valid}
use Rattle.csi_codec.proofs.ShapeLemmas.{EachForm, EachShape, Target, foreground, background, underline_colour, set_to, sgr_shape-each}

same_value : {A : Type 0} (Q : A → Type 0) (x y : A) → Some x ≡ Some y → Q x → Q y
same_value Q x y e h = let q : x ≡ y = cc in subst Q q h

single_if : {A : Type 0} (Q : A → Type 0) (b : Bool) (x y : A) → cond b (Some x) None ≡ Some y → Q x → Q y
single_if Q true x y e h = same_value Q x y e h
single_if Q false x y e h = cc

-- ---- Cursor sequences

by_count : (make : ℕ → Cursor) → ((n : ℕ) → IsCoordinate n → IsWritableCursor (make n)) → (ts : List CsiParam) (x : Cursor) → option_map make (count ts) ≡ Some x → IsWritableCursor x
by_count make h ts x e = made IsWritableCursor make IsCoordinate (count ts) (count_valid ts) h x e

by_pair : (d : ℕ) → IsCoordinate d → (make : ℕ → ℕ → Cursor) → ((a b : ℕ) → IsCoordinate a → IsCoordinate b → IsWritableCursor (make a b))
    → (ts : List CsiParam) (x : Cursor) → option_map (λ m. make m.0 m.1) (coordinate_pair d ts) ≡ Some x → IsWritableCursor x
by_pair d default make h ts x e =
    made IsWritableCursor (λ m. make m.0 m.1) (λ m. IsCoordinate m.0 × IsCoordinate m.1) (coordinate_pair d ts) (λ m q. pair_valid d ts m default q) (λ m p. h m.0 m.1 p.0 p.1) x e

by_name : {B : Type 0} (make : B → Cursor) → ((y : B) → IsWritableCursor (make y)) → (found : Option B) (x : Cursor) → option_map make found ≡ Some x → IsWritableCursor x
by_name {B} make h found x e = made IsWritableCursor make (λ (y : B). Unit {0}) found (λ y q. tt) (λ y u. h y) x e

first_coordinate : IsCoordinate 1
first_coordinate = (omega arith, omega arith)

last_coordinate : IsCoordinate word_max
last_coordinate = (omega arith, omega arith)

save_or_margins-writable : (ts : List CsiParam) (x : Cursor) → save_or_margins ts ≡ Some x → IsWritableCursor x
save_or_margins-writable [] x e = same_value IsWritableCursor variant.SaveCursor x e tt
save_or_margins-writable (t ∷ ts) x e = by_pair word_max last_coordinate variant.SetLeftAndRightMargins (λ a b h k. (h, k)) (t ∷ ts) x e

restore-writable : (ts : List CsiParam) (x : Cursor) → restore ts ≡ Some x → IsWritableCursor x
restore-writable [] x e = same_value IsWritableCursor variant.RestoreCursor x e tt
restore-writable (t ∷ ts) x e = cc

position_request-writable : (ts : List CsiParam) (x : Cursor) → position_request ts ≡ Some x → IsWritableCursor x
position_request-writable [] x e = cc
position_request-writable (P b ∷ ts) x e = cc
position_request-writable (Integer z ∷ t ∷ ts) x e = cc
position_request-writable (Integer z ∷ []) x e = single_if IsWritableCursor (is_number 6 z) variant.RequestActivePositionReport x e tt

cursor_lines-writable : EachLine IsWritableCursor cursor_lines
cursor_lines-writable = (by_count variant.Up (λ n h. h), (by_count variant.Down (λ n h. h), (by_count variant.Right (λ n h. h), (by_count variant.Left (λ n h. h), (by_count variant.NextLine (λ n h. h), (by_count variant.PrecedingLine (λ n h. h), (by_count variant.CharacterAbsolute (λ n h. h), (by_count variant.CharacterPositionAbsolute (λ n h. h), (by_count variant.LinePositionAbsolute (λ n h. h), (by_count variant.CharacterPositionForward (λ n h. h), (by_count variant.CharacterPositionBackward (λ n h. h), (by_count variant.LinePositionForward (λ n h. h), (by_count variant.LinePositionBackward (λ n h. h), (by_count variant.ForwardTabulation (λ n h. h), (by_count variant.BackwardTabulation (λ n h. h), (by_count variant.LineTabulation (λ n h. h), (by_pair 1 first_coordinate variant.Position (λ a b h k. (h, k)), (by_pair 1 first_coordinate variant.CharacterAndLinePosition (λ a b h k. (h, k)), (by_pair 1 first_coordinate variant.ActivePositionReport (λ a b h k. (h, k)), (λ ts x e. by_name variant.TabulationClear (λ known. tt) (option_and_then (λ slot. tabulation_clear_named (slot_number slot)) (one_slot ts)) x e, (λ ts x e. by_name variant.TabulationControl (λ known. tt) (option_and_then (λ slot. tabulation_control_named (slot_number slot)) (one_slot ts)) x e, (by_pair word_max last_coordinate variant.SetTopAndBottomMargins (λ a b h k. (h, k)), (save_or_margins-writable, (restore-writable, (position_request-writable, (λ ts x e. by_name variant.CursorStyle (λ known. tt) (option_and_then (λ slot. cursor_style_named (slot_number slot)) (slot_and_space ts)) x e, tt))))))))))))))))))))))))))

pub cursor_reading-writable : (final : ℕ) (ts : List CsiParam) (x : Cursor) → cursor_reading final ts ≡ Some x → IsWritableCursor x
unfolding cursor_reading
cursor_reading-writable final ts x e = read_by-each IsWritableCursor cursor_lines final ts x cursor_lines-writable e

-- ---- Edits

by_edit_count : (make : ℕ → Edit) → ((n : ℕ) → IsCoordinate n → IsWritableEdit (make n)) → (ts : List CsiParam) (x : Edit) → option_map make (count ts) ≡ Some x → IsWritableEdit x
by_edit_count make h ts x e = made IsWritableEdit make IsCoordinate (count ts) (count_valid ts) h x e

by_extent : {B : Type 0} (make : B → Edit) → ((y : B) → IsWritableEdit (make y)) → (found : Option B) (x : Edit) → option_map make found ≡ Some x → IsWritableEdit x
by_extent {B} make h found x e = made IsWritableEdit make (λ (y : B). Unit {0}) found (λ y q. tt) (λ y u. h y) x e

edit_lines-writable : EachLine IsWritableEdit edit_lines
edit_lines-writable = (by_edit_count change.InsertCharacter (λ n h. h), (by_edit_count change.DeleteCharacter (λ n h. h), (by_edit_count change.InsertLine (λ n h. h), (by_edit_count change.DeleteLine (λ n h. h), (by_edit_count change.EraseCharacter (λ n h. h), (by_edit_count change.ScrollUp (λ n h. h), (by_edit_count change.ScrollDown (λ n h. h), (by_edit_count change.Repeat (λ n h. h), (λ ts x e. by_extent change.EraseInDisplay (λ known. tt) (option_and_then (λ slot. erase_in_display_named (slot_number slot)) (one_slot ts)) x e, (λ ts x e. by_extent change.EraseInLine (λ known. tt) (option_and_then (λ slot. erase_in_line_named (slot_number slot)) (one_slot ts)) x e, tt))))))))))

pub edit_reading-writable : (final : ℕ) (ts : List CsiParam) (x : Edit) → edit_reading final ts ≡ Some x → IsWritableEdit x
unfolding edit_reading
edit_reading-writable final ts x e = read_by-each IsWritableEdit edit_lines final ts x edit_lines-writable e

-- ---- Modes

private_by : (n : ℕ) (found : Option DecPrivateModeCode) → dec_private_mode_named (pos n) ≡ found → n ≤ 65535 → IsWritablePrivateMode (option_map_or private.Code found (private.Unspecified n))
private_by n None e h = (h, e)
private_by n (Some known) e h = tt

private_of : (n : ℕ) → leb n 65535 ≡ true → IsWritablePrivateMode (dec_mode_of n)
private_of n h = private_by n (dec_private_mode_named (pos n)) refl (leb-true n 65535 h)

standard_by : (n : ℕ) (found : Option TerminalModeCode) → terminal_mode_named (pos n) ≡ found → n ≤ 65535 → IsWritableStandardMode (option_map_or standard.Code found (standard.Unspecified n))
standard_by n None e h = (h, e)
standard_by n (Some known) e h = tt

standard_of : (n : ℕ) → leb n 65535 ≡ true → IsWritableStandardMode (ansi_mode_of n)
standard_of n h = standard_by n (terminal_mode_named (pos n)) refl (leb-true n 65535 h)

private_steps : (n : ℕ) (m : Mode) (a b c d : Bool) → leb n 65535 ≡ true
    → cond a (Some (does.SetDecPrivateMode (dec_mode_of n))) (cond b (Some (does.ResetDecPrivateMode (dec_mode_of n)))
    (cond c (Some (does.SaveDecPrivateMode (dec_mode_of n))) (cond d (Some (does.RestoreDecPrivateMode (dec_mode_of n))) None))) ≡ Some m → IsWritableMode m
private_steps n m true b c d h e = same_value IsWritableMode (does.SetDecPrivateMode (dec_mode_of n)) m e (private_of n h)
private_steps n m false true c d h e = same_value IsWritableMode (does.ResetDecPrivateMode (dec_mode_of n)) m e (private_of n h)
private_steps n m false false true d h e = same_value IsWritableMode (does.SaveDecPrivateMode (dec_mode_of n)) m e (private_of n h)
private_steps n m false false false true h e = same_value IsWritableMode (does.RestoreDecPrivateMode (dec_mode_of n)) m e (private_of n h)
private_steps n m false false false false h e = cc

private_within : (final n : ℕ) (m : Mode) (b : Bool) → leb n 65535 ≡ b → option_and_then (λ k. private_step final (dec_mode_of k)) (cond b (Some n) None) ≡ Some m → IsWritableMode m
private_within final n m true h e = private_steps n m (eqb final 104) (eqb final 108) (eqb final 115) (eqb final 114) h e
private_within final n m false h e = cc

pub private_mode-writable : (final : ℕ) (z : ℤ) (m : Mode) → private_mode_reading final z ≡ Some m → IsWritableMode m
unfolding private_mode_reading
private_mode-writable final (negsuc k) m e = cc
private_mode-writable final (pos n) m e = private_within final n m (leb n 65535) refl e

standard_steps : (n : ℕ) (m : Mode) (a b : Bool) → leb n 65535 ≡ true
    → cond a (Some (does.SetMode (ansi_mode_of n))) (cond b (Some (does.ResetMode (ansi_mode_of n))) None) ≡ Some m → IsWritableMode m
standard_steps n m true b h e = same_value IsWritableMode (does.SetMode (ansi_mode_of n)) m e (standard_of n h)
standard_steps n m false true h e = same_value IsWritableMode (does.ResetMode (ansi_mode_of n)) m e (standard_of n h)
standard_steps n m false false h e = cc

standard_within : (final n : ℕ) (m : Mode) (b : Bool) → leb n 65535 ≡ b → option_and_then (λ k. standard_step final (ansi_mode_of k)) (cond b (Some n) None) ≡ Some m → IsWritableMode m
standard_within final n m true h e = standard_steps n m (eqb final 104) (eqb final 108) h e
standard_within final n m false h e = cc

pub standard_mode-writable : (final : ℕ) (z : ℤ) (m : Mode) → mode_reading final z ≡ Some m → IsWritableMode m
unfolding mode_reading
standard_mode-writable final (negsuc k) m e = cc
standard_mode-writable final (pos n) m e = standard_within final n m (leb n 65535) refl e

-- ---- Colours that forms give

within-by : (n m : ℕ) (b : Bool) → leb n 255 ≡ b → cond b (Some n) None ≡ Some m → m ≤ 255
within-by n m true p e = let q : n ≡ m = cc in subst (λ (k : ℕ). k ≤ 255) q (leb-true n 255 p)
within-by n m false p e = cc

byte_of-valid : (t : CsiParam) (m : ℕ) → byte_of t ≡ Some m → m ≤ 255
byte_of-valid (P b) m e = cc
byte_of-valid (Integer (negsuc n)) m e = cc
byte_of-valid (Integer (pos n)) m e = within-by n m (leb n 255) refl e

byte_in : (t : Option CsiParam) (m : ℕ) → option_and_then byte_of t ≡ Some m → m ≤ 255
byte_in None m e = cc
byte_in (Some t) m e = byte_of-valid t m e

byte_at-valid : (ts : List CsiParam) (i m : ℕ) → byte_at ts i ≡ Some m → m ≤ 255
byte_at-valid ts i m e = byte_in (slice_get ts i) m e

abbrev IsByteIn : Option ℕ → Type 0
IsByteIn found = (m : ℕ) → found ≡ Some m → m ≤ 255

palette-valid : (r : Option ℕ) (c : ColorSpec) → IsByteIn r → option_map color.PaletteIndex r ≡ Some c → IsColour c
palette-valid None c h e = cc
palette-valid (Some n) c h e = let q : color.PaletteIndex n ≡ c = cc in subst (λ (x : ColorSpec). IsColour x) q (h n refl)

opaque-valid : (r g b : Option ℕ) (c : ColorSpec) → IsByteIn r → IsByteIn g → IsByteIn b
    → option_and_then (λ x. option_and_then (λ y. option_map (λ z. colour x y z 255) b) g) r ≡ Some c → IsColour c
opaque-valid None g b c h k l e = cc
opaque-valid (Some x) None b c h k l e = cc
opaque-valid (Some x) (Some y) None c h k l e = cc
opaque-valid (Some x) (Some y) (Some z) c h k l e =
    let q : colour x y z 255 ≡ c = cc in subst (λ (v : ColorSpec). IsColour v) q (h x refl, k y refl, l z refl, omega arith)

colour-valid : (r g b a : Option ℕ) (c : ColorSpec) → IsByteIn r → IsByteIn g → IsByteIn b → IsByteIn a
    → option_and_then (λ x. option_and_then (λ y. option_and_then (λ z. option_map (λ w. colour x y z w) a) b) g) r ≡ Some c → IsColour c
colour-valid None g b a c h k l m e = cc
colour-valid (Some x) None b a c h k l m e = cc
colour-valid (Some x) (Some y) None a c h k l m e = cc
colour-valid (Some x) (Some y) (Some z) None c h k l m e = cc
colour-valid (Some x) (Some y) (Some z) (Some w) c h k l m e =
    let q : colour x y z w ≡ c = cc in subst (λ (v : ColorSpec). IsColour v) q (h x refl, k y refl, l z refl, m w refl)

at_palette : (i : ℕ) (ts : List CsiParam) (c : ColorSpec) → palette_at i ts ≡ Some c → IsColour c
at_palette i ts c e = palette-valid (byte_at ts i) c (byte_at-valid ts i) e

at_opaque : (i j k : ℕ) (ts : List CsiParam) (c : ColorSpec) → opaque_at i j k ts ≡ Some c → IsColour c
at_opaque i j k ts c e = opaque-valid (byte_at ts i) (byte_at ts j) (byte_at ts k) c (byte_at-valid ts i) (byte_at-valid ts j) (byte_at-valid ts k) e

at_colour : (i j k l : ℕ) (ts : List CsiParam) (c : ColorSpec) → colour_at i j k l ts ≡ Some c → IsColour c
at_colour i j k l ts c e = colour-valid (byte_at ts i) (byte_at ts j) (byte_at ts k) (byte_at ts l) c (byte_at-valid ts i) (byte_at-valid ts j) (byte_at-valid ts k) (byte_at-valid ts l) e

forms-valid : EachForm (λ ts f. IsColour f.0) colour_forms
forms-valid = (λ ts c s. at_colour 4 6 8 10 ts c, (λ ts c s. at_opaque 5 7 9 ts c, (λ ts c s. at_opaque 4 6 8 ts c, (λ ts c s. at_opaque 3 5 7 ts c, (λ ts c s. at_opaque 3 5 7 ts c, (λ ts c s. at_palette 3 ts c, (λ ts c s. at_palette 3 ts c, tt)))))))

-- ---- Numbers and shapes of SGR

listed-writable : AllByRecursion IsWritableSgr single_codes
listed-writable = (tt, (tt, (tt, (tt, (tt, (tt, (tt, (tt, (tt, (tt, (tt, (tt, (tt, (tt, (tt, (tt, (tt, (tt, (tt, (tt, (tt, (tt, (tt, (tt, (tt, (tt, (tt, tt)))))))))))))))))))))))))))

abbrev WritableIfSome : Option Sgr → Type 0
WritableIfSome found = IfSome found (λ v. IsWritableSgr v)

listed_or-writable : (values : List Sgr) (n : ℕ) (other : Option Sgr) → AllByRecursion IsWritableSgr values → WritableIfSome other → WritableIfSome (listed_or values n other)
listed_or-writable [] n other h k = k
listed_or-writable (value ∷ values) n other h k = cond_both (is_alone n (sgr_tokens value)) (Some value) (listed_or values n other) WritableIfSome (λ e. h.0) (λ e. listed_or-writable values n other h.1 k)

between-writable : (low high n : ℕ) (v : Sgr) (other : Option Sgr) → (low ≤ n → n ≤ high → IsWritableSgr v) → WritableIfSome other → WritableIfSome (cond (is_between low high n) (Some v) other)
between-writable low high n v other h k =
    cond_both (is_between low high n) (Some v) other WritableIfSome
    (λ e. let both = and_parts (leb low n) (leb n high) e in h (leb-true low n both.0) (leb-true n high both.1)) (λ e. k)

ranged-writable : (n : ℕ) → WritableIfSome (ranged_code n)
ranged-writable n =
    between-writable 11 19 n _ _ (λ l h. (omega arith, omega arith))
    (between-writable 30 37 n _ _ (λ l h. omega arith)
    (between-writable 40 47 n _ _ (λ l h. omega arith)
    (between-writable 90 97 n _ _ (λ l h. omega arith)
    (between-writable 100 107 n _ None (λ l h. omega arith) tt))))

single-writable : (found : Option ℕ) → WritableIfSome (option_and_then single_code found)
unfolding single_code
single-writable None = tt
single-writable (Some n) = listed_or-writable single_codes n (ranged_code n) listed-writable (ranged-writable n)

set_to-writable : (t : Target) (c : ColorSpec) → IsColour c → IsWritableSgr (set_to t c)
set_to-writable foreground c h = h
set_to-writable background c h = h
set_to-writable underline_colour c h = h

shapes-writable : EachShape (λ ts f. IsColour f.0) (λ ts f. IsWritableSgr f.0)
shapes-writable = record {
  form = forms-valid;
  colour = λ t z ts f h. set_to-writable t f.0 h;
  line = λ z y ts u. tt;
  single = λ z ts v e. subst WritableIfSome e (single-writable (number_within 255 z));
  reset = λ ts. tt;
}

pub sgr_shape-writable : (ts : List CsiParam) (f : Sgr × ℕ) → sgr_shape ts ≡ Some f → IsWritableSgr f.0
sgr_shape-writable ts f e = let Q : Option (Sgr × ℕ) → Type 0 = λ found. IfSome found (λ f. IsWritableSgr f.0) in subst Q e (sgr_shape-each shapes-writable ts)

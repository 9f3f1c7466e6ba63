-- The actions of a control sequence that is read where its bytes stand, as they are handed out one by one.
use Rattle.std.proofs.Common.{◌≡◌, ℕ, ◌≤◌, ◌||◌, Bool, false, List, [], ◌∷◌, map, length, Option, Some, None, refl, ap, sym, ◌∙◌, arith}
use Rattle.std.specs.Prelude.{option_map, ◌==◌}
use Rattle.std.specs.Option.{option_or, option_map_or}
use Rattle.csi_codec.specs.Actions.{Action, sgr, cursor, edit, device, unspecified, csi_reading, single_or}
use Rattle.csi_codec.specs.Cursors.{cursor_reading}
use Rattle.csi_codec.specs.Devices.{device_reading}
use Rattle.csi_codec.specs.Edits.{edit_reading}
use Rattle.csi_codec.specs.Parsing.{IsStart}
use Rattle.csi_codec.specs.Prefixes.{most_tokens}
use Rattle.csi_codec.specs.Sources.{settings_left, IsSgrList}
use Rattle.csi_codec.specs.Texts.{tokens_of}
use Rattle.csi_codec.specs.Tokens.{parameters_of}
use Rattle.csi_codec.specs.declared.cursors.Cursor.{Cursor}
use Rattle.csi_codec.specs.declared.edits.Edit.{Edit}
use Rattle.csi_codec.specs.declared.param_cursor.ParamCursor.{ParamCursor}
use Rattle.csi_codec.specs.declared.rendition.Sgr.{Sgr}
use Rattle.csi_codec.specs.declared.sequences.CSI.TheVariants as sequence
use Rattle.csi_codec.proofs.CoordinateLemmas.{single_whole}
use Rattle.csi_codec.proofs.KeptLemmas.{few_kept, all_kept, none_dropped}
use Rattle.csi_codec.proofs.SettingLemmas.{list_tokens, no_question}
use Rattle.escape_framing.specs.Prefixes.{IsShortList}
use Rattle.escape_stream.specs.Sequences.{actions_left}
use Rattle.escape_stream.specs.StreamAction.{StreamAction, csi}
use Rattle.escape_stream.specs.ParserShown.{Parsing}
use Rattle.escape_stream.specs.PiecesView.{IsUnderWay, IsGoing, GoesOn, HasGiven}
use Rattle.escape_stream.specs.Walking.{with_list, KeepsList, LeavesSettings}
use Rattle.escape_stream.specs.declared.action.Action.TheVariants as variant
use Rattle.escape_stream.specs.declared.pieces.Piece.TheVariants as code
use Rattle.escape_stream.specs.declared.pieces.Reading.{Reading}
use Rattle.escape_stream.specs.declared.sequence.Sequence.{Sequence}
use Rattle.escape_stream.proofs.AdvanceLemmas.{gives_alike, goes_alike, ready_alike}

-- ---- lists of which every token is kept

pub settings_listed : (list : List ℕ) → IsShortList list → IsSgrList list
settings_listed list s = record { tokens = list_tokens list s.listed; short = few_kept list s.short }

pub list_ready : (it : Reading) (start : ParamCursor) (list : List ℕ) (control : ℕ) → IsUnderWay it → IsUnderWay (with_list it start list control)
list_ready it start list control u = record { within = u.within; reached = u.reached; carried = u.carried }

-- the actions of a list from its start on
list_actions : (start : ParamCursor) (list : List ℕ) (control : ℕ) → IsStart start → length (tokens_of list) ≤ most_tokens
    → actions_left (parameters_of list) (Some (record { offset = start; control = control })) ≡ map csi (csi_reading (tokens_of list) false control)
list_actions start list control starts short =
    ap (map csi) (starts (parameters_of list).tokens (parameters_of list).truncated control
    ∙ (λ i. csi_reading (all_kept list short i) (none_dropped list short i) control))

-- the parameters that were kept are those of the list
kept_alike : (it : Reading) (start : ParamCursor) (list : List ℕ) (control : ℕ) (new : Reading) → KeepsList it start list control new → actions_left (parameters_of list) (Some (record { offset = start; control = control })) ≡ actions_left new.parser.now.parameters new.sequence
kept_alike it start list control new k = λ i. actions_left (sym k.parser i).parameters (sym k.sequence i)

-- ---- what is left of a list after a setting

-- a setting is handed out, and what is left stays, in any form
pub setting_given : (it : Reading) (start : ParamCursor) (list rest : List ℕ) (v : Sgr) → IsUnderWay it → IsStart start → IsSgrList list
    → ((truncated : Bool) → csi_reading (tokens_of list) truncated 109 ≡ sgr v ∷ settings_left rest truncated) → (new : Reading) → LeavesSettings it rest new
    → HasGiven (with_list it start list 109) (Some (code.Action (variant.CSI (sequence.Sgr v)))) new
setting_given it start list rest v u starts k g new n =
    gives_alike (with_list it start list 109) new (list_ready it start list 109 u) n.held n.bytes n.count (variant.CSI (sequence.Sgr v))
    (list_actions start list 109 starts k.short ∙ ap (map csi) (g false) ∙ ap (λ (xs : List StreamAction). csi (sgr v) ∷ xs) (sym n.actions))

-- nothing is left
pub none_left : (it : Reading) (rest : List ℕ) → it.sequence ≡ None → length rest ≡ 0 → LeavesSettings it rest it
none_left it [] over n = record { same = refl; stage = refl; failed = refl; held = refl; bytes = refl; count = refl; actions = ap (actions_left it.parser.now.parameters) over }
none_left it (b ∷ bs) over n = absurd (omega arith)

some_actions : (start : ParamCursor) (rest : List ℕ) → IsStart start → IsSgrList rest → ¬ (length rest ≡ 0) → actions_left (parameters_of rest) (Some (record { offset = start; control = 109 })) ≡ map csi (settings_left rest false)
some_actions start [] starts k n = absurd (n refl)
some_actions start (b ∷ bs) starts k n = list_actions start (b ∷ bs) 109 starts k.short

-- some bytes are left, and read as before
pub some_left : (it : Reading) (start : ParamCursor) (rest : List ℕ) → IsStart start → IsSgrList rest → ¬ (length rest ≡ 0) → LeavesSettings it rest (with_list it start rest 109)
some_left it start rest starts k n = record { same = refl; stage = refl; failed = refl; held = refl; bytes = refl; count = refl; actions = some_actions start rest starts k n }

-- some bytes are left, and were kept
pub kept_left : (it : Reading) (start : ParamCursor) (rest : List ℕ) (new : Reading) → IsStart start → IsSgrList rest → ¬ (length rest ≡ 0) → KeepsList it start rest 109 new → LeavesSettings it rest new
kept_left it start rest new starts k n h = record {
  same = h.same;
  stage = h.stage;
  failed = ap (λ (p : Parsing). p.failed) h.parser;
  held = ap (λ (p : Parsing). p.held) h.parser;
  bytes = h.bytes;
  count = h.count;
  actions = sym (kept_alike it start rest 109 new h) ∙ some_actions start rest starts k n;
}

-- ---- what is kept

pub kept_goes : (it : Reading) (start : ParamCursor) (list : List ℕ) (control : ℕ) (new : Reading) → IsUnderWay it → KeepsList it start list control new → GoesOn (with_list it start list control) new
kept_goes it start list control new u k =
    goes_alike (with_list it start list control) new (list_ready it start list control u) (ap (λ (p : Parsing). p.held) k.parser) k.bytes k.count (kept_alike it start list control new k)

pub kept_going : (it : Reading) (start : ParamCursor) (list : List ℕ) (control : ℕ) (new : Reading) → IsGoing it → KeepsList it start list control new → IsGoing new
kept_going it start list control new g k = record {
  «open» = k.stage ∙ g.open;
  ready = ready_alike it new g.ready (ap (λ (p : Parsing). p.held) k.parser) k.bytes k.count;
  failed = ap (λ (p : Parsing). p.failed) k.parser ∙ g.failed;
}

-- ---- the one action of a list that is neither settings nor modes

single_listed : (list : List ℕ) (control : ℕ) → IsShortList list → ¬ (control ≡ 109) → (control == 104 || control == 108) ≡ false → csi_reading (tokens_of list) false control ≡ single_or false control (tokens_of list)
single_listed list control s m e = single_whole (tokens_of list) false control m e (no_question list s.listed)

one_given : (it : Reading) (start : ParamCursor) (list : List ℕ) (control : ℕ) (a : Action) → IsStart start → it.sequence ≡ None → IsShortList list → csi_reading (tokens_of list) false control ≡ a ∷ []
    → actions_left (parameters_of list) (Some (record { offset = start; control = control })) ≡ csi a ∷ actions_left it.parser.now.parameters it.sequence
one_given it start list control a starts over s e =
    list_actions start list control starts (few_kept list s.short) ∙ ap (map csi) e ∙ ap (λ (q : Option Sequence). csi a ∷ actions_left it.parser.now.parameters q) (sym over)

pub cursor_given : (it : Reading) (start : ParamCursor) (list : List ℕ) (control : ℕ) (v : Cursor) → IsUnderWay it → IsStart start → it.sequence ≡ None → IsShortList list → ¬ (control ≡ 109) → (control == 104 || control == 108) ≡ false
    → cursor_reading control (tokens_of list) ≡ Some v → HasGiven (with_list it start list control) (Some (code.Action (variant.CSI (sequence.Cursor v)))) it
cursor_given it start list control v u starts over s m e found =
    let ts = tokens_of list in
    gives_alike (with_list it start list control) it (list_ready it start list control u) refl refl refl (variant.CSI (sequence.Cursor v))
    (one_given it start list control (cursor v) starts over s (single_listed list control s m e
    ∙ ap (λ (x : Option Cursor). option_map_or (λ known. known ∷ []) (option_or (option_map cursor x) (option_or (option_map edit (edit_reading control ts)) (option_map device (device_reading control ts)))) (unspecified ts false control ∷ [])) found))

pub edit_given : (it : Reading) (start : ParamCursor) (list : List ℕ) (control : ℕ) (v : Edit) → IsUnderWay it → IsStart start → it.sequence ≡ None → IsShortList list → ¬ (control ≡ 109) → (control == 104 || control == 108) ≡ false
    → cursor_reading control (tokens_of list) ≡ None → edit_reading control (tokens_of list) ≡ Some v → HasGiven (with_list it start list control) (Some (code.Action (variant.CSI (sequence.Edit v)))) it
edit_given it start list control v u starts over s m e none found =
    let ts = tokens_of list in
    gives_alike (with_list it start list control) it (list_ready it start list control u) refl refl refl (variant.CSI (sequence.Edit v))
    (one_given it start list control (edit v) starts over s (single_listed list control s m e
    ∙ (λ i. option_map_or (λ known. known ∷ []) (option_or (option_map cursor (none i)) (option_or (option_map edit (found i)) (option_map device (device_reading control ts)))) (unspecified ts false control ∷ []))))

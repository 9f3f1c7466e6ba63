-- What the actions of a patch print: its texts, and nothing else of it prints, changes rows or scrolls.
use Rattle.std.proofs.Common.{◌≡◌, ℕ, Bool, true, false, List, [], ◌∷◌, ◌++◌, map, fold, refl, sym, ap, subst, ◌∙◌, append_assoc, append-nil}
use Rattle.std.specs.Prelude.{⊤, not, Option, Some, None, option_map, if◌then◌else◌}
use Rattle.std.specs.List.{AllByRecursion, flat_map}
use Rattle.std.specs.Str.{IsUtf8, chars}
use Rattle.std.proofs.lemmas.List.{map-append}
use Rattle.std.proofs.lemmas.Str.{encodes-chars}
use Rattle.cell_base.specs.Cluster.{clusters}
use Rattle.cell_base.specs.Screen.{put_run}
use Rattle.csi_codec.specs.declared.rendition.Sgr.{Sgr}
use Rattle.csi_codec.specs.declared.rendition.Sgr.TheVariants as sgr
use Rattle.escape_stream.specs.StreamAction as action
use Rattle.escape_stream.specs.StreamAction.{StreamAction, is_print, print, print_string, control, command, exit}
use Rattle.escape_stream.specs.StreamText.{closes_string, is_string_terminator}
use Rattle.escape_stream.specs.StreamWritable.{characters_of, read_form, read_form_after, string_terminator, terminator_before}
use Rattle.screen_effects.specs.Strokes.{Cluster}
use Rattle.screen_difference.specs.Prints.{PlacedText, strokes_print, strokes_scroll}
use Rattle.terminal_table.specs.Prints.{ArePlainEvents, IsPlainEvent, event_prints, event_scrolls, events_print, request_scrolls, run_ended}
use Rattle.terminal_render.specs.Effects.{actions_done}
use Rattle.terminal_render.specs.Pen.{rendition, set}
use Rattle.terminal_render.specs.Texts.{run_actions}
use Rattle.terminal_render.proofs.FedLemmas.{joined, terminator_done}
use Rattle.terminal_table.specs.Functions.{function_of}
use Rattle.terminal_table.specs.History.{Event, Act}
use Rattle.terminal_table.specs.Meaning.{View, event_done, settled}
use Rattle.terminal_table.specs.Modes.{Modes, with_last}
use Rattle.terminal_table.specs.Requests.{acted, request_done, request_of}
use Rattle.terminal_table.specs.Runs.{run_screen}
use Rattle.terminal_table.specs.State.{State}
use Rattle.terminal_table.proofs.ModesLemmas.{plain_event, settled_modes}
use Rattle.terminal_table.proofs.RequestLemmas.{plain_last}
use Rattle.terminal_table.proofs.RunLemmas.{no_clusters}
use Rattle.terminal_table.proofs.TextLemmas.{with_text}

-- ---- actions that print nothing and leave a plain terminal's rows as they are

pub record IsQuiet (a : StreamAction) : Type 0 where
  pub separate : is_print a ≡ false
  pub rows : (width_of : List ℕ → ℕ) (state : State) → (request_done width_of (request_of None state.screen a) state).screen.rows ≡ state.screen.rows
  pub still : (state : State) → request_scrolls (request_of None state.screen a) state.screen ≡ false

abbrev pub AreQuiet : List StreamAction → Type 0
AreQuiet = AllByRecursion IsQuiet

pub quiet_append : (xs ys : List StreamAction) → AreQuiet xs → AreQuiet ys → AreQuiet (xs ++ ys)
quiet_append [] ys p q = q
quiet_append (x ∷ xs) ys p q = (p.0, quiet_append xs ys p.1 q)

rendition_quiet : (value : Sgr) → IsQuiet (rendition value)
unfolding function_of
rendition_quiet (sgr.Font font) = record { separate = refl; rows = λ width_of state. refl; still = λ state. refl }
rendition_quiet _ = record { separate = refl; rows = λ width_of state. refl; still = λ state. refl }

pub settings_quiet : (values : List (Option Sgr)) → AreQuiet (flat_map set values)
settings_quiet [] = tt
settings_quiet (None ∷ values) = settings_quiet values
settings_quiet (Some value ∷ values) = (rendition_quiet value, settings_quiet values)

pub reset_quiet : IsQuiet (rendition sgr.Reset)
reset_quiet = rendition_quiet sgr.Reset

terminator_quiet : IsQuiet string_terminator
unfolding function_of
terminator_quiet = record { separate = refl; rows = λ width_of state. refl; still = λ state. refl }

-- ---- a plain terminal's view that holds no run

pub record IsBare (v : View) : Type 0 where
  pub run : v.held ≡ []
  pub plain : v.state.modes ≡ None

abbrev bare : View → View
bare v = record v { state = record v.state { modes = None }; held = [] }

is_bare : (v : View) → IsBare v → bare v ≡ v
is_bare v b = λ i. record v { state = record v.state { modes = sym b.plain i }; held = sym b.run i }

-- ---- the texts of actions

abbrev pub HasText : StreamAction → Type 0
HasText (print_string text) = IsUtf8 text
HasText _ = ⊤

abbrev pub HaveTexts : List StreamAction → Type 0
HaveTexts = AllByRecursion HasText

quiet_text : (a : StreamAction) → is_print a ≡ false → HasText a
quiet_text (print_string text) e = cc
quiet_text _ e = tt

texts_append : (xs ys : List StreamAction) → HaveTexts xs → HaveTexts ys → HaveTexts (xs ++ ys)
texts_append [] ys p q = q
texts_append (x ∷ xs) ys p q = (p.0, texts_append xs ys p.1 q)

module _ (f : List ℕ → ℕ) where
  -- ---- events in turn

  pub events_append : (v : View) (xs ys : List Event) → events_print f v (xs ++ ys) ≡ events_print f v xs ++ events_print f (fold (event_done f) v xs) ys
  events_append v [] ys = refl
  events_append v (x ∷ xs) ys =
      let next : View = event_done f v x in
      ap (λ (ts : List PlacedText). event_prints f v x ++ ts) (events_append next xs ys)
      ∙ sym (append_assoc (event_prints f v x) (events_print f next xs) (events_print f (fold (event_done f) next xs) ys))

  pub plain_append : (v : View) (xs ys : List Event) → ArePlainEvents f v xs → ArePlainEvents f (fold (event_done f) v xs) ys → ArePlainEvents f v (xs ++ ys)
  plain_append v [] ys p q = q
  plain_append v (x ∷ xs) ys p q = (p.0, plain_append (event_done f v x) xs ys p.1 q)

  -- the texts that actions print; plain actions change rows with these texts alone, and nothing scrolls
  abbrev actions_print : View → List StreamAction → List PlacedText
  actions_print v actions = events_print f v (map Act actions)

  abbrev ArePlain : View → List StreamAction → Type 0
  ArePlain v actions = ArePlainEvents f v (map Act actions)

  pub print_append : (v : View) (xs ys : List StreamAction) → actions_print v (xs ++ ys) ≡ actions_print v xs ++ actions_print (actions_done f v xs) ys
  print_append v xs ys = ap (events_print f v) (map-append Act xs ys) ∙ events_append v (map Act xs) (map Act ys)

  pub are_plain_append : (v : View) (xs ys : List StreamAction) → ArePlain v xs → ArePlain (actions_done f v xs) ys → ArePlain v (xs ++ ys)
  are_plain_append v xs ys p q = subst (ArePlainEvents f v) (sym (map-append Act xs ys)) (plain_append v (map Act xs) (map Act ys) p q)

  -- a plain terminal stays one where a run ends
  settled_plain : (v : View) → v.state.modes ≡ None → (settled f v).state.modes ≡ None
  settled_plain v plain = let last = settled_modes f v in last.1 ∙ ap (option_map (with_last last.0)) plain

  -- a quiet action changes no row and scrolls nothing; where no run is held it prints nothing, and holds none
  quiet_rows : (v : View) (a : StreamAction) → v.state.modes ≡ None → IsQuiet a → (event_done f v (Act a)).state.screen.rows ≡ (run_ended f v (Act a)).state.screen.rows
  quiet_rows v a plain q =
      let own : State = (settled f v).state in
      subst (λ b. (if b then record v { held = v.held ++ action.printed a } else record (settled f v) { state = acted f a own }).state.screen.rows ≡ (if not b then settled f v else v).state.screen.rows) (sym q.separate)
      (ap (λ (modes : Option Modes). (request_done f (request_of modes own.screen a) own).screen.rows) (settled_plain v plain) ∙ q.rows f own)

  quiet_still : (v : View) (a : StreamAction) → v.state.modes ≡ None → IsQuiet a → event_scrolls (Act a) (run_ended f v (Act a)).state ≡ false
  quiet_still v a plain q =
      let own : State = (run_ended f v (Act a)).state in
      ap (λ (modes : Option Modes). request_scrolls (request_of modes own.screen a) own.screen) (choose (not (is_print a))) ∙ q.still own
    where
      choose : (b : Bool) → (if b then settled f v else v).state.modes ≡ None
      choose true = settled_plain v plain
      choose false = plain

  quiet_prints : (v : View) (a : StreamAction) → v.held ≡ [] → IsQuiet a → event_prints f v (Act a) ≡ []
  quiet_prints v a e q =
      ap (λ b. if not b then strokes_print f v.state.screen (map Cluster (clusters v.held)) else []) q.separate
      ∙ (λ i. strokes_print f v.state.screen (map Cluster (clusters (e i))))
      ∙ ap (λ (ts : List (List ℕ)). strokes_print f v.state.screen (map Cluster ts)) no_clusters

  -- a plain terminal's run is put as on one
  pub plain_put : (v : View) → v.state.modes ≡ None → run_screen v.state.modes f v.state.screen v.held ≡ put_run f v.state.screen v.held
  plain_put v plain = ap (λ (modes : Option Modes). run_screen modes f v.state.screen v.held) plain

  -- it stays one
  pub plain_done : (v : View) (actions : List StreamAction) → v.state.modes ≡ None → (actions_done f v actions).state.modes ≡ None
  plain_done v [] plain = plain
  plain_done v (a ∷ actions) plain = plain_done (event_done f v (Act a)) actions (plain_event f v (Act a) plain)

  quiet_plain : (v : View) (a : StreamAction) → IsBare v → IsQuiet a → IsPlainEvent f v (Act a)
  quiet_plain v a b q = record {
    rows = quiet_rows v a b.plain q;
    still = quiet_still v a b.plain q;
    run = λ _. (λ i. strokes_scroll f v.state.screen (map Cluster (clusters (b.run i)))) ∙ ap (λ (ts : List (List ℕ)). strokes_scroll f v.state.screen (map Cluster ts)) no_clusters;
    put = λ _. plain_put v b.plain;
  }

  quiet_held : (v : View) (a : StreamAction) → IsQuiet a → (event_done f v (Act a)).held ≡ []
  quiet_held v a q = ap (λ b. (if b then record v { held = v.held ++ action.printed a } else record (settled f v) { state = acted f a (settled f v).state }).held) q.separate

  quiet_bare : (v : View) (a : StreamAction) → IsBare v → IsQuiet a → IsBare (event_done f v (Act a))
  quiet_bare v a b q = record { run = quiet_held v a q; plain = plain_event f v (Act a) b.plain }

  -- ---- the actions of an encoding

  -- the actions print these texts, are plain, and hold texts in UTF-8
  pub record Sends (v : View) (actions : List StreamAction) (texts : List PlacedText) : Type 0 where
    pub prints : actions_print v actions ≡ texts
    pub plain : ArePlain v actions
    pub utf8 : HaveTexts actions

  pub both_send : (v : View) (xs ys : List StreamAction) (first second : List PlacedText) → Sends v xs first → Sends (actions_done f v xs) ys second → Sends v (xs ++ ys) (first ++ second)
  both_send v xs ys first second p q = record {
    prints = print_append v xs ys ∙ (λ i. p.prints i ++ q.prints i);
    plain = are_plain_append v xs ys p.plain q.plain;
    utf8 = texts_append xs ys p.utf8 q.utf8;
  }

  pub none_sends : (v : View) → Sends v [] []
  none_sends v = record { prints = refl; plain = tt; utf8 = tt }

  pub quiet_sends : (v : View) (actions : List StreamAction) → IsBare v → AreQuiet actions → Sends v actions []
  quiet_sends v [] b q = none_sends v
  quiet_sends v (a ∷ actions) b q =
      let rest = quiet_sends (event_done f v (Act a)) actions (quiet_bare v a b q.0) q.1 in
      record {
        prints = (λ i. quiet_prints v a b.run q.0 i ++ rest.prints i);
        plain = (quiet_plain v a b q.0, rest.plain);
        utf8 = (quiet_text a q.0.separate, rest.utf8);
      }

  -- a text that is printed, and NUL
  nul_quiet : IsQuiet (control 0)
  unfolding function_of
  nul_quiet = record { separate = refl; rows = λ width_of state. refl; still = λ state. refl }

  run_of_bare : (v : View) (text : List ℕ) → IsUtf8 text → strokes_scroll f v.state.screen (map Cluster (clusters text)) ≡ false
      → Sends (bare v) (run_actions text) (strokes_print f v.state.screen (map Cluster (clusters text)))
  unfolding function_of
  run_of_bare v text u still = record {
    prints = append-nil (strokes_print f v.state.screen (map Cluster (clusters text)));
    plain = (
      record { rows = refl; still = refl; run = λ e. cc; put = λ e. refl },
      (record { rows = quiet_rows holding (control 0) refl nul_quiet; still = quiet_still holding (control 0) refl nul_quiet; run = λ e. still; put = λ e. refl }, tt),
    );
    utf8 = (u, (tt, tt));
  }
    where
      holding : View
      holding = record (bare v) { held = text }

  pub run_sends : (v : View) (text : List ℕ) → IsBare v → IsUtf8 text → strokes_scroll f v.state.screen (map Cluster (clusters text)) ≡ false
      → Sends v (run_actions text) (strokes_print f v.state.screen (map Cluster (clusters text)))
  run_sends v text b u still = subst (λ w. Sends w (run_actions text) (strokes_print f v.state.screen (map Cluster (clusters text)))) (is_bare v b) (run_of_bare v text u still)

  -- ---- the actions that are read back

  -- the characters of a text
  characters_print : (v : View) (cs : List ℕ) → actions_print v (map print cs) ≡ []
  characters_print v [] = refl
  characters_print v (c ∷ cs) = characters_print (event_done f v (Act (print c))) cs

  characters_plain : (v : View) (cs : List ℕ) → v.state.modes ≡ None → ArePlain v (map print cs)
  unfolding function_of
  characters_plain v [] plain = tt
  characters_plain v (c ∷ cs) plain = (
    record { rows = refl; still = ap (λ (modes : Option Modes). request_scrolls (request_of modes v.state.screen (print c)) v.state.screen) plain; run = λ e. cc; put = λ e. plain_put v plain },
    characters_plain (event_done f v (Act (print c))) cs plain,
  )

  one_prints : (a : StreamAction) (v : View) → actions_print v (characters_of a) ≡ event_prints f v (Act a)
  one_prints (print_string text) v = characters_print v (chars text)
  one_prints a v = append-nil (event_prints f v (Act a))

  one_plain : (a : StreamAction) (v : View) → v.state.modes ≡ None → IsPlainEvent f v (Act a) → ArePlain v (characters_of a)
  one_plain (print_string text) v plain p = characters_plain v (chars text) plain
  one_plain a v plain p = (p, tt)

  one_done : (a : StreamAction) (v : View) → HasText a → actions_done f v (characters_of a) ≡ event_done f v (Act a)
  one_done (print_string text) v u = with_text f v (chars text) ∙ (λ i. record v { held = v.held ++ encodes-chars text u i })
  one_done a v u = refl

  -- a string terminator that is added does nothing
  added_done : (closed stands : Bool) (v : View) → v.state.modes ≡ None → (closed ≡ true → v.held ≡ []) → actions_done f v (terminator_before closed stands) ≡ v
  added_done true true v plain h = refl
  added_done true false v plain h = terminator_done f v (record { run = h refl; last = plain_last v.state plain })
  added_done false true v plain h = refl
  added_done false false v plain h = refl

  added_sends : (closed stands : Bool) (v : View) → v.state.modes ≡ None → (closed ≡ true → v.held ≡ []) → Sends v (terminator_before closed stands) []
  added_sends true true v plain h = none_sends v
  added_sends true false v plain h = quiet_sends v (string_terminator ∷ []) (record { run = h refl; plain = plain }) (terminator_quiet, tt)
  added_sends false true v plain h = none_sends v
  added_sends false false v plain h = none_sends v

  closed_run : (a : StreamAction) (v : View) → closes_string a ≡ true → (event_done f v (Act a)).held ≡ []
  closed_run (command c) v e = refl
  closed_run exit v e = refl
  closed_run _ v e = cc

  -- the actions that are read back print the same texts, and are plain
  read_after : (closed : Bool) (actions : List StreamAction) (v : View) (texts : List PlacedText) → v.state.modes ≡ None → (closed ≡ true → v.held ≡ []) → Sends v actions texts
      → (actions_print v (read_form_after closed actions) ≡ texts) × ArePlain v (read_form_after closed actions)
  read_after closed [] v texts plain h p = let added = added_sends closed false v plain h in (added.prints ∙ p.prints, added.plain)
  read_after closed (a ∷ remaining) v texts plain h p =
      let stands : Bool = is_string_terminator a in
      let before : List StreamAction = terminator_before closed stands in
      let own : List StreamAction = characters_of a in
      let next : View = event_done f v (Act a) in
      let rest : List StreamAction = read_form_after (closes_string a) remaining in
      let added = added_sends closed stands v plain h in
      let same : actions_done f v before ≡ v = added_done closed stands v plain h in
      let after : actions_done f v (before ++ own) ≡ next = joined f before own v ∙ ap (λ w. actions_done f w own) same ∙ one_done a v p.utf8.0 in
      let later = read_after (closes_string a) remaining next (actions_print next remaining) (plain_event f v (Act a) plain) (closed_run a v) (record { prints = refl; plain = p.plain.1; utf8 = p.utf8.1 }) in (
        print_append v (before ++ own) rest
            ∙ (λ i. print_append v before own i ++ actions_print (after i) rest)
            ∙ (λ i. (added.prints i ++ actions_print (same i) own) ++ actions_print next rest)
            ∙ (λ i. one_prints a v i ++ later.0 i)
            ∙ p.prints,
        are_plain_append v (before ++ own) rest
            (are_plain_append v before own added.plain (subst (λ w. ArePlain w own) (sym same) (one_plain a v plain p.plain.0)))
            (subst (λ w. ArePlain w rest) (sym after) later.1),
      )

  pub read_prints : (actions : List StreamAction) (v : View) (texts : List PlacedText) → v.state.modes ≡ None → Sends v actions texts → (actions_print v (read_form actions) ≡ texts) × ArePlain v (read_form actions)
  read_prints actions v texts plain p = read_after false actions v texts plain (λ e. cc) p

-- The reading of bytes up to a position.
use Rattle.std.proofs.Common.{◌≡◌, ◌≢◌, ℕ, zero, suc, ◌+◌, ◌<◌, ◌≤◌, List, [], ◌∷◌, ◌++◌, length, map, take, drop, refl, ap, sym, ◌∙◌, arith, append_assoc, append-nil}
use Rattle.std.specs.Prelude.{Option, Some, None}
use Rattle.std.specs.List.{FoldsTo}
use Rattle.std.proofs.lemmas.Grind.{flat_map-append}
use Rattle.std.proofs.lemmas.List.{take_all, map-append}
use borrow.Author.Count.{below_none, below_more}
use Rattle.escape_framing.specs.Cut.{newly_decided}
use Rattle.escape_framing.specs.Held.{Held, held_of, nothing_held}
use Rattle.escape_framing.proofs.HeldLemmas.{newly_handed}
use Rattle.escape_framing.proofs.PlacedLemmas.{newly_join}
use Rattle.escape_framing.proofs.IdleLemmas.{idle_is_whole, whole_is_idle}
use Rattle.escape_stream.specs.Items.{Item, items, actions_of_item, actions_of_items}
use Rattle.escape_stream.specs.Parsing.{DecidesAction, Settles, IsShortest, IsNowhere, IsFirst, IsFirstSettled, first_of}
use Rattle.escape_stream.specs.StreamAction.{StreamAction}
use Rattle.escape_stream.specs.StreamActionView.{value_of}
use Rattle.escape_stream.specs.declared.action.Action.{Action}
use Rattle.escape_stream.specs.StreamActions.{actions_of_dispatch, actions_of, newly_decided_actions}
use Rattle.escape_stream.proofs.HandLemmas.{items_say}
use Rattle.escape_stream.proofs.PendingLemmas.{handed_end}

-- ---- What performers keep

first_then : (o : Option StreamAction) (xs ys : List StreamAction) → first_of (first_of o xs) ys ≡ first_of o (xs ++ ys)
first_then None [] ys = refl
first_then None (a ∷ xs) ys = refl
first_then (Some a) xs ys = refl

first_items : {P : Type 0} (get : P → Option StreamAction) (p : P) (xs : List Item) (q : P) → FoldsTo (λ a x b. get b ≡ first_of (get a) (actions_of_item x)) p xs q → get q ≡ first_of (get p) (actions_of_items xs)
first_items get p [] q s = ap get (sym s) ∙ none (get p)
  where
    none : (o : Option StreamAction) → o ≡ first_of o []
    none None = refl
    none (Some a) = refl
first_items get p (x ∷ xs) q s =
    first_items get s.0 xs q s.2 ∙ ap (λ (o : Option StreamAction). first_of o (actions_of_items xs)) s.1 ∙ first_then (get p) (actions_of_item x) (actions_of_items xs)

pub first_newly : {P : Type 0} (get : P → Option StreamAction) (p : P) (stream bytes : List ℕ) (q : P) → get p ≡ None → FoldsTo (λ a x b. get b ≡ first_of (get a) (actions_of_item x)) p (items stream bytes) q
    → get q ≡ first_of None (newly_decided_actions stream bytes)
first_newly get p stream bytes q n s = first_items get p (items stream bytes) q s ∙ (λ i. first_of (n i) (items_say stream bytes i))

kept_items : {P : Type 0} (get : P → List StreamAction) (p : P) (xs : List Item) (q : P) → FoldsTo (λ a x b. get b ≡ get a ++ actions_of_item x) p xs q → get q ≡ get p ++ actions_of_items xs
kept_items get p [] q s = ap get (sym s) ∙ sym (append-nil (get p))
kept_items get p (x ∷ xs) q s =
    kept_items get s.0 xs q s.2 ∙ ap (λ (l : List StreamAction). l ++ actions_of_items xs) s.1 ∙ append_assoc (get p) (actions_of_item x) (actions_of_items xs)

pub kept_newly : {P : Type 0} (get : P → List StreamAction) (p : P) (stream bytes : List ℕ) (q : P) → FoldsTo (λ a x b. get b ≡ get a ++ actions_of_item x) p (items stream bytes) q → get q ≡ get p ++ newly_decided_actions stream bytes
kept_newly get p stream bytes q s = kept_items get p (items stream bytes) q s ∙ ap (λ (l : List StreamAction). get p ++ l) (items_say stream bytes)

-- ---- Bytes up to a position

-- the first bytes were read after the stream, and none of them, in order, are so
pub record IsReadTo (P : List ℕ → Type 0) (stream bytes : List ℕ) (held : Held) (i : ℕ) : Type 0 where
  pub held_is : held ≡ held_of (stream ++ take i bytes)
  pub none : (k : ℕ) → k < i + 1 → P (take k bytes) → ⊥

pub read_none : (P : List ℕ → Type 0) (stream bytes : List ℕ) (held : Held) → held ≡ held_of stream → (P [] → ⊥) → IsReadTo P stream bytes held 0
read_none P stream bytes held e not = record {
  held_is = e ∙ ap held_of (sym (append-nil stream));
  none = below_more (λ k. P (take k bytes) → ⊥) 0 (below_none (λ k. P (take k bytes) → ⊥)) not;
}

pub nothing_new : (stream : List ℕ) → [] ≡ newly_decided_actions stream []
nothing_new stream = sym (ap actions_of (newly_handed stream [] ∙ handed_end (held_of stream)))

pub decides_none : (stream : List ℕ) → DecidesAction stream [] → ⊥
decides_none stream some = some (sym (nothing_new stream))

pub settles_none : (stream : List ℕ) → Settles stream [] → ⊥
settles_none stream s = decides_none stream s.0

take_none : (n : ℕ) (xs : List ℕ) → xs ≡ [] → take n xs ≡ xs
take_none zero xs e = sym e
take_none (suc n) [] e = refl
take_none (suc n) (x ∷ xs) e = cc

take_after : (i j : ℕ) (xs : List ℕ) → take (i + j) xs ≡ take i xs ++ take j (drop i xs)
take_after zero j xs = let k : 0 + j ≡ j = omega arith in ap (λ (n : ℕ). take n xs) k
take_after (suc i) j [] = let k : suc i + j ≡ suc (i + j) = omega arith in rw k (sym (take_none j [] refl))
take_after (suc i) j (x ∷ xs) = let k : suc i + j ≡ suc (i + j) = omega arith in rw k (ap (λ (l : List ℕ). x ∷ l) (take_after i j xs))

pub nowhere : (P : List ℕ → Type 0) (stream bytes : List ℕ) (held : Held) (i : ℕ) → length bytes ≤ i → IsReadTo P stream bytes held i → IsNowhere P bytes
nowhere P stream bytes held i above r = λ count within. r.none count (omega arith)

pub read_whole : (P : List ℕ → Type 0) (stream bytes : List ℕ) (held : Held) (i : ℕ) → length bytes ≤ i → IsReadTo P stream bytes held i → held ≡ held_of (stream ++ bytes)
read_whole P stream bytes held i above r = r.held_is ∙ ap (λ l. held_of (stream ++ l)) (take_all i bytes above)

-- ---- One byte more

module _ (stream bytes : List ℕ) (i : ℕ) where
  -- the actions that it decides
  abbrev pub next_actions : List StreamAction
  next_actions = newly_decided_actions (stream ++ take i bytes) (take 1 (drop i bytes))

  pub newly_next : newly_decided_actions stream (take (i + 1) bytes) ≡ newly_decided_actions stream (take i bytes) ++ next_actions
  newly_next =
      ap (newly_decided_actions stream) (take_after i 1 bytes)
      ∙ ap actions_of (newly_join stream (take i bytes) (take 1 (drop i bytes)))
      ∙ flat_map-append actions_of_dispatch (newly_decided stream (take i bytes)) (newly_decided (stream ++ take i bytes) (take 1 (drop i bytes)))

  pub held_more : (held : Held) → held ≡ held_of ((stream ++ take i bytes) ++ take 1 (drop i bytes)) → held ≡ held_of (stream ++ take (i + 1) bytes)
  held_more held e = e ∙ ap held_of (append_assoc stream (take i bytes) (take 1 (drop i bytes)) ∙ ap (λ l. stream ++ l) (sym (take_after i 1 bytes)))

  pub read_next : (P : List ℕ → Type 0) (before after : Held) → IsReadTo P stream bytes before i → after ≡ held_of ((stream ++ take i bytes) ++ take 1 (drop i bytes)) → (P (take (i + 1) bytes) → ⊥) → IsReadTo P stream bytes after (i + 1)
  read_next P before after r e not = record {
    held_is = held_more after e;
    none = below_more (λ k. P (take k bytes) → ⊥) (i + 1) r.none not;
  }

  shortest : (P : List ℕ → Type 0) (held : Held) → i < length bytes → IsReadTo P stream bytes held i → P (take (i + 1) bytes) → IsShortest P bytes (i + 1)
  shortest P held below r holds = record { within = omega arith; holds = holds; least = r.none }

  -- ---- the first action

  none_there : (xs : List StreamAction) → (xs ≢ [] → ⊥) → xs ≡ []
  none_there [] h = refl
  none_there (x ∷ xs) h = absurd (h (λ e. cc))

  -- the byte was read as a part of its own
  pub held_part : (after : Held) (part : List ℕ) → part ≡ take 1 (drop i bytes) → after ≡ held_of ((stream ++ take i bytes) ++ part) → after ≡ held_of ((stream ++ take i bytes) ++ take 1 (drop i bytes))
  held_part after part is e = e ∙ ap (λ l. held_of ((stream ++ take i bytes) ++ l)) is

  pub first_part : {P : Type 0} (get : P → Option StreamAction) (p q : P) (part : List ℕ) → part ≡ take 1 (drop i bytes) → get p ≡ None → FoldsTo (λ a x b. get b ≡ first_of (get a) (actions_of_item x)) p (items (stream ++ take i bytes) part) q → get q ≡ first_of None next_actions
  first_part get p q part is none s = first_newly get p (stream ++ take i bytes) part q none s ∙ ap (λ l. first_of None (newly_decided_actions (stream ++ take i bytes) l)) is

  pub kept_part : {P : Type 0} (get : P → List StreamAction) (p q : P) (part : List ℕ) → part ≡ take 1 (drop i bytes) → FoldsTo (λ a x b. get b ≡ get a ++ actions_of_item x) p (items (stream ++ take i bytes) part) q → get q ≡ get p ++ next_actions
  kept_part get p q part is s = kept_newly get p (stream ++ take i bytes) part q s ∙ ap (λ l. get p ++ newly_decided_actions (stream ++ take i bytes) l) is

  -- none before the byte
  newly_first : (before : Held) → IsReadTo (DecidesAction stream) stream bytes before i → newly_decided_actions stream (take (i + 1) bytes) ≡ next_actions
  newly_first before r = newly_next ∙ ap (λ l. l ++ next_actions) (none_there (newly_decided_actions stream (take i bytes)) (r.none i (omega arith)))

  some_first : (us : List StreamAction) (v : StreamAction) → first_of None us ≡ Some v → (remaining : List StreamAction) × (us ≡ v ∷ remaining)
  some_first [] v e = cc
  some_first (u ∷ us) v e = (us, cc)

  no_first : (us : List StreamAction) → first_of None us ≡ None → us ≡ []
  no_first [] e = refl
  no_first (u ∷ us) e = cc

  pub first_found : (before : Held) (v : StreamAction) → i < length bytes → IsReadTo (DecidesAction stream) stream bytes before i → first_of None next_actions ≡ Some v → IsFirst stream bytes (Some (v, i + 1))
  first_found before v below r e =
      let s = some_first next_actions v e in
      let whole = newly_first before r ∙ s.1 in
      (shortest (DecidesAction stream) before below r (λ none. cc), (s.0, whole))

  pub first_not : (before after : Held) → IsReadTo (DecidesAction stream) stream bytes before i → after ≡ held_of ((stream ++ take i bytes) ++ take 1 (drop i bytes)) → first_of None next_actions ≡ None → IsReadTo (DecidesAction stream) stream bytes after (i + 1)
  first_not before after r e n = read_next (DecidesAction stream) before after r e (λ some. some (newly_first before r ∙ no_first next_actions n))

  -- ---- the first settled actions

  pub settled_more : (us vs : List StreamAction) → us ≡ newly_decided_actions stream (take i bytes) → vs ≡ us ++ next_actions → vs ≡ newly_decided_actions stream (take (i + 1) bytes)
  settled_more us vs had more = more ∙ ap (λ l. l ++ next_actions) had ∙ sym newly_next

  pub settled_found : (before after : Held) (us vs : List StreamAction) → i < length bytes → IsReadTo (Settles stream) stream bytes before i → after ≡ held_of ((stream ++ take i bytes) ++ take 1 (drop i bytes))
      → us ≡ newly_decided_actions stream (take i bytes) → vs ≡ us ++ next_actions → vs ≢ [] → after ≡ nothing_held → IsFirstSettled stream bytes (Some (vs, i + 1))
  settled_found before after us vs below r e had more some idle =
      let k : newly_decided_actions stream (take (i + 1) bytes) ≡ vs = sym (settled_more us vs had more) in
      (shortest (Settles stream) before below r ((λ none. some (sym k ∙ none)), idle_is_whole (stream ++ take (i + 1) bytes) (sym (held_more after e) ∙ idle)), k)

  pub settled_not : (before after : Held) (us vs : List StreamAction) → IsReadTo (Settles stream) stream bytes before i → after ≡ held_of ((stream ++ take i bytes) ++ take 1 (drop i bytes))
      → us ≡ newly_decided_actions stream (take i bytes) → vs ≡ us ++ next_actions → (vs ≢ [] → after ≡ nothing_held → ⊥) → IsReadTo (Settles stream) stream bytes after (i + 1)
  settled_not before after us vs r e had more not =
      let k : newly_decided_actions stream (take (i + 1) bytes) ≡ vs = sym (settled_more us vs had more) in
      read_next (Settles stream) before after r e (λ settles. not (λ none. settles.0 (k ∙ none)) (held_more after e ∙ whole_is_idle (stream ++ take (i + 1) bytes) settles.1))

-- an action that is pushed
pub one_pushed : (xs ys : List Action) (a : Action) (l : List StreamAction) → ys ≡ xs ++ a ∷ [] → map value_of ys ++ l ≡ map value_of xs ++ value_of a ∷ l
one_pushed xs ys a l e = ap (λ (zs : List Action). map value_of zs ++ l) e ∙ ap (λ (zs : List StreamAction). zs ++ l) (map-append value_of xs (a ∷ [])) ∙ append_assoc (map value_of xs) (value_of a ∷ []) l

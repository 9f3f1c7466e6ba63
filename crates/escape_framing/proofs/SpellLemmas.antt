-- Texts are their characters, and no text begins where another one ends.
use Rattle.std.proofs.Common.{◌≡◌, ℕ, ◌+◌, List, [], ◌∷◌, ◌++◌, length, map, refl, sym, ap, ◌∙◌, arith, append-nil, length-append, ◌-◌}
use Rattle.std.specs.Prelude.{◌==◌, encode_utf8}
use Rattle.escape_framing.specs.Dispatch.{Dispatch, Print}
use Rattle.escape_framing.specs.Cut.{newly_decided}
use Rattle.escape_framing.specs.Held.{held_of}
use Rattle.escape_framing.specs.Placed.{placed_from}
use Rattle.escape_framing.specs.Framed.{Framed, Text, Single, is_lent, put_text, put_character, framed, at_offset, placed_after, Spells, nothing, alone, in_text, AreSeparate}
use Rattle.escape_framing.proofs.HeldLemmas.{step_decides}
use Rattle.std.proofs.lemmas.Bool.{cond_both, eqb-true, eqb-false}

-- ---- characters

one_spells : (from c : ℕ) (items : List Framed) (ds : List Dispatch) → Spells items ds → Spells (Text from (encode_utf8 c) ∷ items) (Print c ∷ ds)
one_spells from c items ds h = in_text from c [] (encode_utf8 c) items ds (Print c ∷ ds) (sym (append-nil (encode_utf8 c))) refl h

more_spells : (from next c : ℕ) (more : List ℕ) (items : List Framed) (ds : List Dispatch) → Spells (Text next more ∷ items) ds → Spells (Text from (encode_utf8 c ++ more) ∷ items) (Print c ∷ ds)
more_spells from next c more items ds (in_text n d cs text i es all e f k) =
    in_text from c (d ∷ cs) (encode_utf8 c ++ more) items es (Print c ∷ ds) (ap (λ (t : List ℕ). encode_utf8 c ++ t) e) (ap (λ (t : List Dispatch). Print c ∷ t) f) k

put_spells : (from c : ℕ) (items : List Framed) (ds : List Dispatch) → Spells items ds → Spells (put_text from (encode_utf8 c) items) (Print c ∷ ds)
put_spells from c [] ds h = one_spells from c [] ds h
put_spells from c (Single d ∷ items) ds h = one_spells from c (Single d ∷ items) ds h
put_spells from c (Text next more ∷ items) ds h =
    cond_both (next == from + length (encode_utf8 c)) _ _ (λ l. Spells l (Print c ∷ ds)) (λ e. more_spells from next c more items ds h) (λ e. one_spells from c (Text next more ∷ items) ds h)

character_spells : (start offset c : ℕ) (items : List Framed) (ds : List Dispatch) → Spells items ds → Spells (put_character start offset c items) (Print c ∷ ds)
character_spells start offset c items ds h =
    cond_both (is_lent start offset c) _ _ (λ l. Spells l (Print c ∷ ds)) (λ e. put_spells (offset - length (encode_utf8 c)) c items ds h) (λ e. alone (Print c) items ds h)

pub framed_spells : (start : ℕ) (placed : List (ℕ × Dispatch)) → Spells (framed start placed) (map (λ (p : ℕ × Dispatch). p.1) placed)
framed_spells start [] = nothing
framed_spells start ((n, Print c) ∷ placed) = character_spells start n c (framed start placed) (map (λ (p : ℕ × Dispatch). p.1) placed) (framed_spells start placed)
framed_spells start ((n, d) ∷ placed) = alone d (framed start placed) (map (λ (p : ℕ × Dispatch). p.1) placed) (framed_spells start placed)

-- ---- side by side

after_text : (from : ℕ) (text more : List ℕ) (next : ℕ) (items : List Framed) → AreSeparate (Text next more ∷ items) → next ≡ from + length text → AreSeparate (Text from (text ++ more) ∷ items)
after_text from text more next [] h e = tt
after_text from text more next (Single d ∷ items) h e = h
after_text from text more next (Text other rest ∷ items) h e = (λ k. h.0 (let m = length-append text more in omega arith), h.1)

put_is_separate : (from : ℕ) (text : List ℕ) (items : List Framed) → AreSeparate items → AreSeparate (put_text from text items)
put_is_separate from text [] h = tt
put_is_separate from text (Single d ∷ items) h = h
put_is_separate from text (Text next more ∷ items) h =
    cond_both (next == from + length text) _ _ AreSeparate (λ e. after_text from text more next items h (eqb-true next (from + length text) e)) (λ e. (eqb-false next (from + length text) e, h))

character_separate : (start offset c : ℕ) (items : List Framed) → AreSeparate items → AreSeparate (put_character start offset c items)
character_separate start offset c items h =
    cond_both (is_lent start offset c) _ _ AreSeparate (λ e. put_is_separate (offset - length (encode_utf8 c)) (encode_utf8 c) items h) (λ e. h)

pub framed_separate : (start : ℕ) (placed : List (ℕ × Dispatch)) → AreSeparate (framed start placed)
framed_separate start [] = tt
framed_separate start ((n, Print c) ∷ placed) = character_separate start n c (framed start placed) (framed_separate start placed)
framed_separate start ((n, _) ∷ placed) = framed_separate start placed

-- ---- the held state determines the offsets too

pub placed_same : (bytes stream : List ℕ) → placed_after (length stream) (held_of stream) bytes ≡ placed_from stream bytes
unfolding placed_after
placed_same [] stream = refl
placed_same (b ∷ bytes) stream =
    let d = step_decides stream b in
    let n : length stream + 1 ≡ length (stream ++ b ∷ []) = sym (length-append stream (b ∷ [])) in
    (λ i. at_offset (length stream + 1) (sym d.0 i) ++ placed_after (n i) (sym d.1 i) bytes) ∙ ap (λ l. at_offset (length stream + 1) (newly_decided stream (b ∷ [])) ++ l) (placed_same bytes (stream ++ b ∷ []))

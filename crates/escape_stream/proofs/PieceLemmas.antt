-- Steps of an iterator of pieces, over plain variables.
use Rattle.std.proofs.Common.{◌≡◌, ◌≢◌, ◌<◌, ◌≤◌, ℕ, zero, suc, ◌+◌, ◌-◌, ◌*◌, Bool, true, false, List, [], ◌∷◌, ◌++◌, length, map, drop, refl, ap, subst, sym, ◌∙◌, arith, add_assoc, append-nil, length-drop}
use Rattle.std.specs.Prelude.{Some, if◌then◌else◌}
use Rattle.std.proofs.lemmas.Grind.{flat_map-append}
use Rattle.std.proofs.lemmas.List.{drop-drop}
use Rattle.escape_framing.specs.Event.{handed_out, kept_rank, rank}
use Rattle.escape_framing.specs.Held.{Held, Kept, InCharacter, InEscape, InControlSequence, InCommand, InHeader, InDevice, InString, hand_out}
use Rattle.escape_framing.specs.Framed as framing
use Rattle.escape_framing.specs.Framed.{Framed, framed_after, IsReached, IsCarried}
use Rattle.escape_framing.specs.Lending.{Lending}
use Rattle.escape_framing.specs.Read.{ReadsEvent, count_of}
use Rattle.escape_framing.specs.Read as reading
use Rattle.escape_framing.specs.declared.event.Event.{Event}
use Rattle.escape_framing.specs.declared.event.Read.{Read}
use Rattle.escape_stream.specs.Pieces.{Piece, Single, pieces_of_framed, pieces_of}
use Rattle.escape_stream.specs.Sequences.{event_actions}

-- ---- the actions of an event

pub event_pieces : (l : Lending) (e : Event) (rest : List Piece) → pieces_of (map framing.Single (handed_out l (Some e))) ++ rest ≡ map Single (event_actions l e) ++ rest
event_pieces l e rest = ap (λ (x : List Piece). x ++ rest) (append-nil (map Single (event_actions l e)))

-- ---- the bytes that were read

-- after a step that read n bytes from offset k on: the rest leads to the same held state
pub record Behind (k n : ℕ) (h after : Held) (bytes : List ℕ) : Type 0 where
  pub within : k + n ≤ length bytes
  pub reached : IsReached after
  pub carried : IsCarried 0 (k + n) after (drop (k + n) bytes)
  pub ends : (hand_out after (drop (k + n) bytes)).held ≡ (hand_out h (drop k bytes)).held

module _ (k : ℕ) (h : Held) (bytes : List ℕ) (r : Read) (l : Lending) (reads : ReadsEvent h (drop k bytes) r l) where
  -- the items of the bytes that a step leaves
  left_after : (start n : ℕ) → framed_after start (start + k + n) l.held (drop n (drop k bytes)) ≡ framed_after start (start + (k + n)) l.held (drop (k + n) bytes)
  left_after start n = λ i. framed_after start (add_assoc start k n i) l.held (drop-drop n k bytes i)

  pub read_pieces : (start : ℕ) → IsReached h → IsCarried 0 k h (drop k bytes)
      → pieces_of (framed_after start (start + k) h (drop k bytes)) ≡ pieces_of (reading.items_of l r (drop k bytes) (start + k)) ++ pieces_of (framed_after start (start + (k + count_of r)) l.held (drop (k + count_of r) bytes))
  read_pieces start reached carried =
      let f = reads.frames k reached carried in
      let items = reading.items_of l r (drop k bytes) (start + k) in
      ap pieces_of (f.lends start)
      ∙ flat_map-append pieces_of_framed items (framed_after start (start + k + count_of r) l.held (drop (count_of r) (drop k bytes)))
      ∙ ap (λ (x : List Framed). pieces_of items ++ pieces_of x) (left_after start (count_of r))

  pub read_after : k ≤ length bytes → IsReached h → IsCarried 0 k h (drop k bytes) → Behind k (count_of r) h l.held bytes
  read_after within reached carried =
      let f = reads.frames k reached carried in
      let d : drop (count_of r) (drop k bytes) ≡ drop (k + count_of r) bytes = drop-drop (count_of r) k bytes in
      record {
        within = omega (arith, f.within, length-drop k bytes);
        reached = f.reached;
        carried = subst (λ (b : List ℕ). IsCarried 0 (k + count_of r) l.held b) d f.carried;
        ends = ap (λ (b : List ℕ). (hand_out l.held b).held) (sym d) ∙ sym f.keeps;
      }

  -- ---- how far it is to the end

  kept_is_small : (kept : Kept) → kept_rank kept ≤ 1
  kept_is_small (InCharacter []) = omega arith
  kept_is_small (InCharacter (b ∷ begun)) = omega arith
  kept_is_small (InEscape xs) = omega arith
  kept_is_small (InControlSequence p) = omega arith
  kept_is_small (InCommand body) = omega arith
  kept_is_small (InHeader header) = omega arith
  kept_is_small InDevice = omega arith
  kept_is_small InString = omega arith

  rank_is_small : (held : Held) → rank held ≤ 3
  rank_is_small held = by_test held.waiting
    where
      by_test : (b : Bool) → (if b then 2 else 0) + kept_rank held.kept ≤ 3
      by_test true = omega (arith, kept_is_small held.kept)
      by_test false = omega (arith, kept_is_small held.kept)

  -- bytes were read, or something was closed
  pub comes_closer : k ≤ length bytes → k ≢ length bytes → 4 * (length bytes - (k + count_of r)) + rank l.held < 4 * (length bytes - k) + rank h
  comes_closer within some = by_count (count_of r) refl
    where
      fits : count_of r + k ≤ length bytes
      fits = omega (arith, reads.within, length-drop k bytes)

      by_count : (m : ℕ) → count_of r ≡ m → 4 * (length bytes - (k + count_of r)) + rank l.held < 4 * (length bytes - k) + rank h
      by_count zero z = let m = reads.moves z (omega (arith, length-drop k bytes)) in omega (arith, z)
      by_count (suc m) z = let f = fits in let small = rank_is_small l.held in omega arith

-- What a byte hands out by itself, where no text begins, and that texts don't join.
use Rattle.std.proofs.Common.{◌≡◌, ◌≢◌, ℕ, ◌+◌, ◌<◌, ◌≤◌, ◌⊎◌, inl, inr, true, false, List, [], ◌∷◌, ◌++◌, length, map, refl, sym, ap, subst, ◌∙◌, arith, append_assoc, length-append, ⊎_elim}
use Rattle.std.specs.Prelude.{encode_utf8}
use Rattle.std.specs.Char.{IsScalar}
use Rattle.escape_framing.specs.Segment.{IsPrintable}
use Rattle.escape_framing.specs.Dispatch.{Dispatch, Print}
use Rattle.escape_framing.specs.Held.{Held, Handed, held_step, held_of}
use Rattle.escape_framing.specs.Framed.{Single, is_lent, framed, at_offset, placed_after, framed_after, begun_bytes, IsLendable, BeginsNoText, IsCarried, IsReached}
use Rattle.escape_framing.proofs.Begun.{begun_in, is_body}
use Rattle.escape_framing.proofs.HeldLemmas.{step_decides}
use Rattle.escape_framing.proofs.FramedLemmas.{BeginsFrom, never_lent, print_begins}
use Rattle.escape_framing.proofs.PrintLemmas.{PrintNone, Ending, goes_on, prints, quiet, replaces, Printing, whole_one, breaks_one}
use Rattle.escape_framing.proofs.SoundLemmas.{stream_sound, held_prints, held_body, begun_none, reached_sound}
use Rattle.std.proofs.lemmas.Bool.{cases_Bool, ne_eqb, lt-leb, cases_eq}

-- dispatches at one position, each by itself
abbrev pub IsAlone : ℕ → ℕ → List Dispatch → Type 0
IsAlone start offset ds = (placed : List (ℕ × Dispatch)) → framed start (at_offset offset ds ++ placed) ≡ map Single ds ++ framed start placed

pub none_alone : (start offset : ℕ) (ds : List Dispatch) → PrintNone ds → IsAlone start offset ds
none_alone start offset [] p placed = refl
none_alone start offset (Print c ∷ ds) p placed = absurd p
none_alone start offset (d ∷ ds) p placed = ap (λ l. Single d ∷ l) (none_alone start offset ds p placed)

pub print_alone : (start offset c : ℕ) (ds : List Dispatch) → is_lent start offset c ≡ false → IsAlone start offset ds → IsAlone start offset (Print c ∷ ds)
print_alone start offset c ds e h placed = rw e (ap (λ l. Single (Print c) ∷ l) (h placed))

-- a character isn't lent unless it could be
not_lent : (start offset c : ℕ) → IsScalar c → IsPrintable c → (IsLendable c → offset < start + length (encode_utf8 c)) → is_lent start offset c ≡ false
not_lent start offset c s p n = ⊎_elim
    (λ e. never_lent start offset c e)
    (λ m. rw (ne_eqb c 0xFFFD m, lt-leb (start + length (encode_utf8 c)) offset (n (s, p, m))) refl)
    (cases_eq c 0xFFFD)

nothing_begun : (h : Held) → begun_in h.kept ≡ 0 → h.waiting ≡ false → begun_bytes h ≡ []
nothing_begun h e w = rw w (begun_none h.kept e)

pub carried_none : (start count : ℕ) (h : Held) (rest : List ℕ) → begun_bytes h ≡ [] → IsCarried start count h rest
carried_none start count h rest e = record { carried = λ c more l k n. absurd (n e) }

-- each dispatch of one byte is an item of its own, and a character begun after it began before the call, if it can be lent
pub record StandAlone (start count : ℕ) (h : Held) (rest : List ℕ) (ds : List Dispatch) : Type 0 where
  pub alone : IsAlone start count ds
  pub carried : IsCarried start count h rest

longer : (p : List ℕ) (b : ℕ) → length (p ++ b ∷ []) ≡ length p + 1
longer p b = length-append p (b ∷ [])

ending_alone : (start count b : ℕ) (h : Held) (rest : List ℕ) (ds : List Dispatch) → BeginsNoText (b ∷ rest) → Ending [] b ds h.kept h.waiting → StandAlone start (count + 1) h rest ds
ending_alone start count b h rest ds n (goes_on e f) = record {
  alone = λ placed. ap (λ (l : List Dispatch). framed start (at_offset (count + 1) l ++ placed)) e ∙ ap (λ (l : List Dispatch). map Single l ++ framed start placed) (sym e);
  carried = record { carried = λ c more l k m. absurd (n.none c more l (ap (λ (l : List ℕ). l ++ rest) (sym f) ∙ k)) };
}
ending_alone start count b h rest ds n (prints c s p e f g w) =
    let lent : is_lent start (count + 1) c ≡ false = not_lent start (count + 1) c s p (λ l. absurd (n.none c rest l (ap (λ (x : List ℕ). x ++ rest) (sym e)))) in
    record {
      alone = subst (IsAlone start (count + 1)) (sym f) (print_alone start (count + 1) c [] lent (λ placed. refl));
      carried = carried_none start (count + 1) h rest (nothing_begun h (ap begun_in g) w);
    }
ending_alone start count b h rest ds n (quiet p g w) = record { alone = none_alone start (count + 1) ds p; carried = carried_none start (count + 1) h rest (nothing_begun h g w) }
ending_alone start count b h rest ds n (replaces f g w) = record {
  alone = subst (IsAlone start (count + 1)) (sym f) (print_alone start (count + 1) 0xFFFD [] (never_lent start (count + 1) 0xFFFD refl) (λ placed. refl));
  carried = carried_none start (count + 1) h rest (nothing_begun h g w);
}

pub some_or_none : (p : List ℕ) → (p ≡ []) ⊎ (p ≢ [])
some_or_none [] = inl refl
some_or_none (x ∷ p) = inr (λ e. cc)

printing_alone : (start count b : ℕ) (h0 h : Held) (rest : List ℕ) (ds : List Dispatch) → BeginsNoText (b ∷ rest) → IsCarried start count h0 (b ∷ rest) → Printing (begun_bytes h0) b ds h.kept h.waiting → StandAlone start (count + 1) h rest ds
printing_alone start count b h0 h rest ds n k (breaks_one remaining e t) =
    let a = ending_alone start count b h rest remaining n t in
    record { alone = subst (IsAlone start (count + 1)) (sym e) (print_alone start (count + 1) 0xFFFD remaining (never_lent start (count + 1) 0xFFFD refl) a.alone); carried = a.carried }
printing_alone start count b h0 h rest ds n k (whole_one (quiet p g w)) = ending_alone start count b h rest ds n (quiet p g w)
printing_alone start count b h0 h rest ds n k (whole_one (replaces f g w)) = ending_alone start count b h rest ds n (replaces f g w)
printing_alone start count b h0 h rest ds n k (whole_one (goes_on e f)) = by_bytes (some_or_none (begun_bytes h0))
  where
    by_bytes : (begun_bytes h0 ≡ []) ⊎ (begun_bytes h0 ≢ []) → StandAlone start (count + 1) h rest ds
    by_bytes (inl z) = ending_alone start count b h rest ds n (goes_on e (f ∙ ap (λ (l : List ℕ). l ++ b ∷ []) z))
    by_bytes (inr z) = record {
      alone = λ placed. ap (λ (l : List Dispatch). framed start (at_offset (count + 1) l ++ placed)) e ∙ ap (λ (l : List Dispatch). map Single l ++ framed start placed) (sym e);
      carried = record {
        carried = λ c more l q m.
            let q' : begun_bytes h0 ++ (b ∷ rest) ≡ encode_utf8 c ++ more = sym (append_assoc (begun_bytes h0) (b ∷ []) rest) ∙ ap (λ (x : List ℕ). x ++ rest) (sym f) ∙ q in
            omega (arith, k.carried c more l q' z, ap length f, longer (begun_bytes h0) b);
      };
    }
printing_alone start count b h0 h rest ds n k (whole_one (prints c s p e f g w)) = by_bytes (some_or_none (begun_bytes h0))
  where
    by_bytes : (begun_bytes h0 ≡ []) ⊎ (begun_bytes h0 ≢ []) → StandAlone start (count + 1) h rest ds
    by_bytes (inl z) = ending_alone start count b h rest ds n (prints c s p (e ∙ ap (λ (l : List ℕ). l ++ b ∷ []) z) f g w)
    by_bytes (inr z) =
        let lent : is_lent start (count + 1) c ≡ false = not_lent start (count + 1) c s p (λ l.
        let q : begun_bytes h0 ++ (b ∷ rest) ≡ encode_utf8 c ++ rest = sym (append_assoc (begun_bytes h0) (b ∷ []) rest) ∙ ap (λ (x : List ℕ). x ++ rest) (sym e) in
        omega (arith, k.carried c rest l q z, ap length e, longer (begun_bytes h0) b)) in
        record {
          alone = subst (IsAlone start (count + 1)) (sym f) (print_alone start (count + 1) c [] lent (λ placed. refl));
          carried = carried_none start (count + 1) h rest (nothing_begun h (ap begun_in g) w);
        }

-- a byte of a stream at which no text begins
pub byte_alone : (h : Held) (b : ℕ) (rest : List ℕ) (start count : ℕ) → IsReached h → is_body h.kept ≡ false → BeginsNoText (b ∷ rest) → IsCarried start count h (b ∷ rest)
    → StandAlone start (count + 1) (held_step h b).held rest (held_step h b).dispatches
byte_alone h b rest start count r o n k = printing_alone start count b h (held_step h b).held rest (held_step h b).dispatches n k (held_prints h b (reached_sound h r) o)

-- a byte that prints nothing
pub quiet_alone : (start count : ℕ) (h : Handed) (rest : List ℕ) → PrintNone h.dispatches → begun_bytes h.held ≡ [] → StandAlone start (count + 1) h.held rest h.dispatches
quiet_alone start count h rest p e = record { alone = none_alone start (count + 1) h.dispatches p; carried = carried_none start (count + 1) h.held rest e }

pub body_alone : (h : Held) (b : ℕ) (rest : List ℕ) (start count : ℕ) → IsReached h → is_body h.kept ≡ true
    → StandAlone start (count + 1) (held_step h b).held rest (held_step h b).dispatches
body_alone h b rest start count r o = let q = held_body h b (reached_sound h r) o in quiet_alone start count (held_step h b) rest q.0 q.1

-- ---- no text begins

none_begins : (n start offset : ℕ) (ds : List Dispatch) (placed : List (ℕ × Dispatch)) → PrintNone ds → BeginsFrom n (framed start placed) → BeginsFrom n (framed start (at_offset offset ds ++ placed))
none_begins n start offset [] placed p h = h
none_begins n start offset (Print c ∷ ds) placed p h = absurd p
none_begins n start offset (d ∷ ds) placed p h = tt

alone_begins : (n start offset c : ℕ) (ds : List Dispatch) (placed : List (ℕ × Dispatch)) → is_lent start offset c ≡ false → BeginsFrom n (framed start (at_offset offset (Print c ∷ ds) ++ placed))
alone_begins n start offset c ds placed e = rw e tt

-- the bytes that have begun a character begin at offset n or later; or these and the rest begin no text, and n is at most count + 1
abbrev pub IsLate : ℕ → ℕ → List ℕ → List ℕ → Type 0
IsLate n count begun rest = (n + length begun ≤ count) ⊎ ((n ≤ count + 1) × BeginsNoText (begun ++ rest))

-- then no text begins before offset n
pub begins_late : (rest stream : List ℕ) (start count n : ℕ) → IsLate n count (begun_bytes (held_of stream)) rest → BeginsFrom n (framed_after start count (held_of stream) rest)
unfolding placed_after
begins_late [] stream start count n l = tt
begins_late (b ∷ rest) stream start count n l =
    by_step (subst (λ (h : Held). IsLate n (count + 1) (begun_bytes h) rest → BeginsFrom n (framed_after start (count + 1) h rest)) (step_decides stream b).1 (begins_late rest (stream ++ b ∷ []) start (count + 1) n))
  where
    next : Handed
    next = held_step (held_of stream) b

    placed : List (ℕ × Dispatch)
    placed = placed_after (count + 1) next.held rest

    Goal : List Dispatch → Type 0
    Goal ds = BeginsFrom n (framed start (at_offset (count + 1) ds ++ placed))

    soon : IsLate n count (begun_bytes (held_of stream)) (b ∷ rest) → begun_bytes next.held ≡ [] → IsLate n (count + 1) (begun_bytes next.held) rest
    soon (inl k) z = inl (omega (arith, ap length z))
    soon (inr k) z = inl (let m = k.0 in omega (arith, ap length z))

    split : (q : List ℕ) → q ≡ begun_bytes (held_of stream) ++ b ∷ [] → begun_bytes (held_of stream) ++ (b ∷ rest) ≡ q ++ rest
    split q e = sym (append_assoc (begun_bytes (held_of stream)) (b ∷ []) rest) ∙ ap (λ (x : List ℕ). x ++ rest) (sym e)

    by_step : (IsLate n (count + 1) (begun_bytes next.held) rest → BeginsFrom n (framed_after start (count + 1) next.held rest)) → Goal next.dispatches
    by_step later = ⊎_elim (λ h. let q = held_body (held_of stream) b (stream_sound stream) h in none_begins n start (count + 1) next.dispatches placed q.0 (later (soon l q.1)))
        (λ h. by_printing (held_prints (held_of stream) b (stream_sound stream) h)) (cases_Bool (is_body (held_of stream).kept))
      where
        by_printing : Printing (begun_bytes (held_of stream)) b next.dispatches next.held.kept next.held.waiting → Goal next.dispatches
        by_printing (breaks_one remaining e k) = subst Goal (sym e) (alone_begins n start (count + 1) 0xFFFD remaining placed (never_lent start (count + 1) 0xFFFD refl))
        by_printing (whole_one (replaces e g w)) = subst Goal (sym e) (alone_begins n start (count + 1) 0xFFFD [] placed (never_lent start (count + 1) 0xFFFD refl))
        by_printing (whole_one (quiet p g w)) = none_begins n start (count + 1) next.dispatches placed p (later (soon l (nothing_begun next.held g w)))
        by_printing (whole_one (prints c s p e f g w)) = subst Goal (sym f) (by_late l)
          where
            by_late : IsLate n count (begun_bytes (held_of stream)) (b ∷ rest) → Goal (Print c ∷ [])
            by_late (inl k) = print_begins n start (count + 1) c (framed start placed) (omega (arith, ap length e, longer (begun_bytes (held_of stream)) b))
            by_late (inr k) = alone_begins n start (count + 1) c [] placed (not_lent start (count + 1) c s p (λ m. absurd (k.1.none c rest m (split (encode_utf8 c) e))))
        by_printing (whole_one (goes_on e f)) = subst Goal (sym e) (later (by_late l))
          where
            by_late : IsLate n count (begun_bytes (held_of stream)) (b ∷ rest) → IsLate n (count + 1) (begun_bytes next.held) rest
            by_late (inl k) = inl (omega (arith, ap length f, longer (begun_bytes (held_of stream)) b))
            by_late (inr k) = inr (let m = k.0 in omega arith, record { none = λ c more m q. k.1.none c more m (split (begun_bytes next.held) f ∙ q) })

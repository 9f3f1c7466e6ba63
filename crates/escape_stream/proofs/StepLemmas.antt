-- Steps of a walk over the bytes of a call.
use Rattle.std.proofs.Common.{◌≡◌, inl, inr, ℕ, List, [], ◌∷◌, ◌++◌, length, map, Some, refl, ap, subst, sym, ◌∙◌, arith, append_assoc, append-nil, length-append, ◌≤◌, None}
use Rattle.std.specs.Prelude.{Bool, true, false, Result, Ok, Err, IsErrOf}
use Rattle.std.specs.List.{FoldsTo}
use Rattle.std.proofs.lemmas.Fn.{FoldsTo-push}
use Rattle.std.proofs.lemmas.List.{map-append}
use Rattle.escape_framing.specs.Held.{held_of}
use Rattle.escape_stream.specs.declared.perform.Halted.{Halted}
use Rattle.escape_stream.specs.declared.perform.Halted.TheVariants as halted
use Rattle.escape_stream.specs.declared.pieces.Piece.{Piece as PieceCode}
use Rattle.escape_stream.specs.declared.pieces.Reading.{Reading}
use Rattle.escape_stream.specs.Pieces.{Piece, pieces}
use Rattle.escape_stream.specs.Items.{Item, item_of, items_of}
use Rattle.escape_stream.specs.Performing.{PerformsSome, HaltsAt}
use Rattle.escape_stream.specs.PiecesView.{open_pieces, BytesTakeMemory, PerformsUpToMemory, TakesMemoryBefore, AsksMemory, AsksMemoryLater, item_handed, IsPiece, IsUnderWay, GoesOn, HasGiven}
use Rattle.escape_stream.specs.Walking.{Performs, ArePieces, HandsOver, Reaches, WalksAll, WalksSome, StepsTo, WalksTo}
use Rattle.escape_stream.proofs.AdvanceLemmas.{bodies_here, bodies_join, body_after, fewer_left, stays, gives_none}
use Rattle.escape_stream.proofs.HandLemmas.{same_item}

-- ---- how far a walk has come

are_pushed : (ps : List Piece) (xs : List PieceCode) (p : Piece) (x : PieceCode) → ArePieces ps xs → IsPiece p x → ArePieces (ps ++ (p ∷ [])) (xs ++ (x ∷ []))
are_pushed [] [] p x h k = (k, tt)
are_pushed [] (y ∷ ys) p x h k = absurd h
are_pushed (q ∷ qs) [] p x h k = absurd h
are_pushed (q ∷ qs) (y ∷ ys) p x h k = (h.0, are_pushed qs ys p x h.1 k)

are_joined : (ps : List Piece) (xs : List PieceCode) (qs : List Piece) (ys : List PieceCode) → ArePieces ps xs → ArePieces qs ys → ArePieces (ps ++ qs) (xs ++ ys)
are_joined [] [] qs ys h k = k
are_joined [] (x ∷ xs) qs ys h k = absurd h
are_joined (p ∷ ps) [] qs ys h k = absurd h
are_joined (p ∷ ps) (x ∷ xs) qs ys h k = (h.0, are_joined ps xs qs ys h.1 k)

are_items : (ps : List Piece) (xs : List PieceCode) → ArePieces ps xs → items_of ps ≡ map item_handed xs
are_items [] [] h = refl
are_items [] (y ∷ ys) h = absurd h
are_items (q ∷ qs) [] h = absurd h
are_items (q ∷ qs) (y ∷ ys) h = λ i. same_item q y h.0 i ∷ are_items qs ys h.1 i

pub items_over : (done : List PieceCode) (old new : Reading) (start : ℕ) → HandsOver done old new start → items_of (open_pieces start old) ≡ map item_handed done ++ items_of (open_pieces start new)
items_over done old new start h = ap items_of h.whole ∙ map-append item_of h.pieces (open_pieces start new) ∙ ap (λ (l : List Item). l ++ items_of (open_pieces start new)) (are_items h.pieces done h.are)

module _ {P : Type 0} (does : P → Item → P → Type 0) where
  abbrev by_code : P → PieceCode → P → Type 0
  by_code before x after = does before (item_handed x) after

  folds_join : (p q last : P) (xs ys : List PieceCode) → FoldsTo by_code p xs q → FoldsTo by_code q ys last → FoldsTo by_code p (xs ++ ys) last
  folds_join p q last [] ys s t = subst (λ (x : P). FoldsTo by_code x ys last) (sym s) t
  folds_join p q last (x ∷ xs) ys s t = (s.0, s.1, folds_join s.0 q last xs ys s.2 t)

  pub reaches_here : (it : Reading) (p : P) → IsUnderWay it → Reaches does it p it p
  reaches_here it p u = record { done = []; performed = refl; handed = λ start. record { pieces = []; are = tt; whole = refl }; ready = u; ends = refl; bodies = bodies_here it }

  pub reaches_given : (old mid new : Reading) (p q last : P) (x : PieceCode) → Reaches does old p mid q → HasGiven mid (Some x) new → does q (item_handed x) last → Reaches does old p new last
  reaches_given old mid new p q last x r g d = record {
    done = r.done ++ (x ∷ []);
    performed = FoldsTo-push by_code p r.done q x last r.performed d;
    handed = λ start.
        let h = r.handed start in
        let k = g.gives start in
        record {
          pieces = h.pieces ++ (k.0 ∷ []);
          are = are_pushed h.pieces r.done k.0 x h.are k.1;
          whole = h.whole ∙ ap (λ (l : List Piece). h.pieces ++ l) k.2 ∙ sym (append_assoc h.pieces (k.0 ∷ []) (open_pieces start new));
        };
    ready = g.ready;
    ends = g.ends ∙ r.ends;
    bodies = bodies_join old mid new r.bodies g.bodies;
  }

  pub reaches_join : (old mid new : Reading) (p q last : P) → Reaches does old p mid q → Reaches does mid q new last → Reaches does old p new last
  reaches_join old mid new p q last r t = record {
    done = r.done ++ t.done;
    performed = folds_join p q last r.done t.done r.performed t.performed;
    handed = λ start.
        let h = r.handed start in
        let k = t.handed start in
        record {
          pieces = h.pieces ++ k.pieces;
          are = are_joined h.pieces r.done k.pieces t.done h.are k.are;
          whole = h.whole ∙ ap (λ (l : List Piece). h.pieces ++ l) k.whole ∙ sym (append_assoc h.pieces k.pieces (open_pieces start new));
        };
    ready = t.ready;
    ends = t.ends ∙ r.ends;
    bodies = bodies_join old mid new r.bodies t.bodies;
  }

  pub reaches_goes : (old new : Reading) (p : P) → GoesOn old new → Reaches does old p new p
  reaches_goes old new p g = record { done = []; performed = refl; handed = λ start. record { pieces = []; are = tt; whole = sym (g.same start) }; ready = g.ready; ends = g.ends; bodies = g.bodies }

  pub shorter : (old new : Reading) (p q : P) → Reaches does old p new q → length (open_pieces 0 new) ≤ length (open_pieces 0 old)
  shorter old new p q r = let h = r.handed 0 in omega (arith, ap length h.whole, length-append h.pieces (open_pieces 0 new))

  folds_items : (p q : P) (xs : List PieceCode) → FoldsTo by_code p xs q → FoldsTo does p (map item_handed xs) q
  folds_items p q [] s = s
  folds_items p q (x ∷ xs) s = (s.0, s.1, folds_items s.0 q xs s.2)

  -- ---- a whole walk

  pub walks_done : (old new : Reading) (first last : P) → WalksAll does old first new last → (start : ℕ) → FoldsTo does first (items_of (open_pieces start old)) last
  walks_done old new first last w start =
      subst (λ (l : List Item). FoldsTo does first l last)
      (sym (items_over w.reached.done old w.it start (w.reached.handed start) ∙ ap (λ (l : List Piece). map item_handed w.reached.done ++ items_of l) (w.none.gives start) ∙ append-nil (map item_handed w.reached.done)))
      (folds_items first last w.reached.done w.reached.performed)

  some_done : (old new : Reading) (first last : P) → Reaches does old first new last → (start : ℕ) → PerformsSome does first (items_of (open_pieces start old)) last
  some_done old new first last r start = record {
    done = map item_handed r.done;
    left = items_of (open_pieces start new);
    whole = items_over r.done old new start (r.handed start);
    performed = folds_items first last r.done r.performed;
  }

  pub walks_halted : {E : Type 0} (refuses : P → Item → E → P → Type 0) (old new : Reading) (first last : P) (h : Halted E) → WalksTo does refuses old first (Err h) new last → (start : ℕ) → HaltsAt does refuses first (items_of (open_pieces start old)) h last
  unfolding some_done
  walks_halted refuses old new first last halted.Failed w start = absurd w
  walks_halted refuses old new first last halted.Memory w start = some_done old w.it first last w.reached start
  walks_halted refuses old new first last (halted.Refused r) w start =
      let k = w.refused.given.gives start in
      let s = some_done old w.it first w.before w.reached start in
      record {
        done = s.done;
        item = item_handed w.refused.piece;
        left = items_of (open_pieces start new);
        before = w.before;
        whole = s.whole ∙ ap (λ (l : List Piece). s.done ++ items_of l) k.2 ∙ ap (λ (i : Item). s.done ++ (i ∷ items_of (open_pieces start new))) (same_item k.0 w.refused.piece k.1);
        performed = s.performed;
        refused = w.refused.performed;
      }

-- ---- where memory is taken

pub asks_later : {P : Type 0} (does : P → Item → P → Type 0) (old : Reading) (first last : P) → WalksSome does old first last → AsksMemoryLater old
asks_later does old first last w = by_case w.memory
  where
    by_case : AsksMemory w.it → AsksMemoryLater old
    by_case (inl (offset, b)) = inl (offset, (w.reached.bodies offset b.reads).0)
    by_case (inr f) = inr (λ start. let h = w.reached.handed start in record { done = h.pieces; left = open_pieces start w.it; whole = h.whole; takes = f start })

pub walks_early : {P E : Type 0} (does : P → Item → P → Type 0) (refuses : P → Item → E → P → Type 0) (old new : Reading) (first last : P) (h : Halted E) → WalksTo does refuses old first (Err h) new last
    → IsErrOf {T = Unit {0}} (Err h) halted.Memory → WalksSome does old first last
walks_early does refuses old new first last h w e =
    let k : h ≡ halted.Memory = cc in
    subst (λ x. WalksTo does refuses old first (Err x) new last) k w

-- in a call that began with these bytes after a stream, the performer has done the first pieces, and the rest is left
pub walks_up_to : {P : Type 0} (does : P → Item → P → Type 0) (old : Reading) (first last : P) (stream bytes : List ℕ) → old.parser.now.held ≡ held_of stream → old.count ≡ 0 → old.bytes.now ≡ bytes → open_pieces (length stream) old ≡ pieces stream bytes
    → WalksSome does old first last → PerformsUpToMemory does first stream bytes last
walks_up_to does old first last stream bytes held none is whole w =
    let start = length stream in
    let h = w.reached.handed start in
    record {
      done = h.pieces;
      left = open_pieces start w.it;
      whole = sym whole ∙ h.whole;
      performed = subst (λ (l : List Item). FoldsTo does first l last) (sym (are_items h.pieces w.reached.done h.are)) (folds_items does first last w.reached.done w.reached.performed);
      takes = by_case w.memory;
    }
  where
    by_case : AsksMemory w.it → TakesMemoryBefore stream bytes (open_pieces (length stream) w.it)
    by_case (inl (offset, b)) =
        let r = w.reached.bodies offset b.reads in
        let t = body_after old stream bytes held none is offset r.0 in
        inl (offset, t.0, t.1, b.first (length stream) ∙ r.1 (length stream) ∙ t.2)
    by_case (inr f) = inr (f (length stream))

-- so these bytes take some
pub takes_some : (stream bytes : List ℕ) (done left : List Piece) → pieces stream bytes ≡ done ++ left → TakesMemoryBefore stream bytes left → BytesTakeMemory stream bytes
takes_some stream bytes done left whole (inl (n, within, body, none)) = inl (n, within, body)
takes_some stream bytes done left whole (inr next) = inr (record { done = done; left = left; whole = whole; takes = next })

-- ---- a refusal

module _ {P E : Type 0} (does : P → Item → P → Type 0) (refuses : P → Item → E → P → Type 0) where
  pub walks_refused : (old mid new : Reading) (first p last : P) (x : PieceCode) (h : Halted E) → Reaches does old first mid p → HasGiven mid (Some x) new → Performs does refuses p (item_handed x) (Err h) last → WalksTo does refuses old first (Err h) new last
  walks_refused old mid new first p last x halted.Failed r g d = absurd d
  walks_refused old mid new first p last x halted.Memory r g d = absurd d
  walks_refused old mid new first p last x (halted.Refused e) r g d = record { it = mid; before = p; reached = r; refused = record { piece = x; given = g; performed = d } }

  -- ---- steps

  pub steps_given : (old new : Reading) (p last : P) (x : PieceCode) (answer : Result Bool (Halted E)) → IsUnderWay old → HasGiven old (Some x) new → Performs does refuses p (item_handed x) answer last → StepsTo does refuses old p answer new last
  steps_given old new p last x (Ok true) u g d = absurd d
  steps_given old new p last x (Ok false) u g d = (reaches_given does old old new p p last x (reaches_here does old p u) g d, fewer_left old new x g)
  steps_given old new p last x (Err h) u g d = walks_refused old old new p p last x h (reaches_here does old p u) g d

  walks_later : (old mid new : Reading) (first p last : P) (h : Halted E) → Reaches does old first mid p → WalksTo does refuses mid p (Err h) new last → WalksTo does refuses old first (Err h) new last
  walks_later old mid new first p last halted.Failed r w = absurd w
  walks_later old mid new first p last halted.Memory r w = record { it = w.it; reached = reaches_join does old mid w.it first p last r w.reached; memory = w.memory }
  walks_later old mid new first p last (halted.Refused e) r w = record { it = w.it; before = w.before; reached = reaches_join does old mid w.it first p w.before r w.reached; refused = w.refused }

  walks_all_later : (old mid new : Reading) (first p last : P) → Reaches does old first mid p → WalksAll does mid p new last → WalksAll does old first new last
  walks_all_later old mid new first p last r w = record { it = w.it; reached = reaches_join does old mid w.it first p last r w.reached; none = w.none }

  -- a walk that has come this far, and a step more
  pub steps_later : (old mid new : Reading) (first p last : P) (h : Halted E) → Reaches does old first mid p → StepsTo does refuses mid p (Err h) new last → WalksTo does refuses old first (Err h) new last
  steps_later old mid new first p last h r s = walks_later old mid new first p last h r s

  pub steps_end : (old mid new : Reading) (first p last : P) → Reaches does old first mid p → StepsTo does refuses mid p (Ok true) new last → WalksAll does old first new last
  steps_end old mid new first p last r s = walks_all_later old mid new first p last r s

  pub steps_on : (old mid new : Reading) (first p last : P) → Reaches does old first mid p → StepsTo does refuses mid p (Ok false) new last → Reaches does old first new last
  steps_on old mid new first p last r s = reaches_join does old mid new first p last r s.0

  pub steps_join : (old mid new : Reading) (first p last : P) (answer : Result Bool (Halted E)) → Reaches does old first mid p → StepsTo does refuses mid p answer new last → StepsTo does refuses old first answer new last
  steps_join old mid new first p last (Ok true) r s = walks_all_later old mid new first p last r s
  steps_join old mid new first p last (Ok false) r s = (reaches_join does old mid new first p last r s.0, let l = shorter does old mid first p r in let f = s.1 in omega arith)
  steps_join old mid new first p last (Err h) r s = walks_later old mid new first p last h r s

  pub steps_goes : (old mid new : Reading) (p last : P) (answer : Result Bool (Halted E)) → GoesOn old mid → StepsTo does refuses mid p answer new last → StepsTo does refuses old p answer new last
  steps_goes old mid new p last answer g s = steps_join old mid new p p last answer (reaches_goes does old mid p g) s

  pub steps_at_end : (it : Reading) (p : P) → IsUnderWay it → it.sequence ≡ None → it.count ≡ length it.bytes.now → StepsTo does refuses it p (Ok true) it p
  steps_at_end it p u q n = record { it = it; reached = reaches_here does it p u; none = gives_none it it (stays it u) q n }

  pub steps_asks : (old new : Reading) (p : P) → IsUnderWay old → AsksMemory old → StepsTo does refuses old p (Err halted.Memory) new p
  steps_asks old new p u a = record { it = old; reached = reaches_here does old p u; memory = a }

  performed_one : (p last : P) (x : Item) (b : Bool) → Performs does refuses p x (Ok b) last → does p x last
  performed_one p last x true d = absurd d
  performed_one p last x false d = d

  pub reaches_next : (old mid new : Reading) (first p last : P) (x : PieceCode) (b : Bool) → Reaches does old first mid p → HasGiven mid (Some x) new → Performs does refuses p (item_handed x) (Ok b) last → Reaches does old first new last
  reaches_next old mid new first p last x b r g d = reaches_given does old mid new first p last x r g (performed_one p last (item_handed x) b d)

  pub steps_last : (old mid next new : Reading) (first p last : P) (x : PieceCode) (b : Bool) → Reaches does old first mid p → HasGiven mid (Some x) next → GoesOn next new → Performs does refuses p (item_handed x) (Ok b) last → StepsTo does refuses old first (Ok false) new last
  steps_last old mid next new first p last x b r g o d = (
    reaches_join does old next new first last last (reaches_next old mid next first p last x b r g d) (reaches_goes does next new last o),
    let l = shorter does old mid first p r in let f = fewer_left mid next x g in omega (arith, ap length (o.same 0)),
  )

  pub steps_none : (old new : Reading) (p : P) → IsUnderWay old → HasGiven old None new → StepsTo does refuses old p (Ok true) new p
  steps_none old new p u g = record { it = old; reached = reaches_here does old p u; none = g }

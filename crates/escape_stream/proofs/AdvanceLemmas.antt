-- How an iterator of pieces goes on.
use Rattle.std.proofs.Common.{◌≡◌, ◌≢◌, ◌<◌, ◌≤◌, inl, inr, ℕ, ◌+◌, ◌-◌, true, List, [], ◌∷◌, ◌++◌, length, map, take, drop, Option, Some, None, refl, ap, subst, sym, ◌∙◌, arith, Bor, false}
use Rattle.std.specs.Prelude.{Result, Ok, Err, IfOk, OnErr, is_some, is_none}
use Rattle.std.specs.declared.alloc.AllocError.{AllocError}
use Rattle.std.specs.Iterator.{MakesProgress, at_most}
use Rattle.std.proofs.Math.ListN.{drop_of_length-le}
use Rattle.std.proofs.lemmas.List.{drop-drop}
use Rattle.escape_framing.specs.Held.{Held, TakesMemory, hand_out, held_of}
use Rattle.escape_framing.specs.Framed.{framed, framed_after, placed_after, begun_bytes}
use Rattle.escape_framing.specs.Lending.{Lending}
use Rattle.escape_framing.specs.Read.{ReadsEvent, count_of, held_after, whole_command, whole_sequence}
use Rattle.escape_framing.specs.declared.error.ParseError.{ParseError}
use Rattle.escape_framing.specs.declared.error.ParseError.TheVariants as refusal
use Rattle.escape_framing.specs.declared.event.Event.{Event}
use Rattle.escape_framing.specs.declared.event.Event.TheVariants as event
use Rattle.escape_osc.specs.Parts.{parts_of}
use Rattle.escape_osc.specs.Reading.{osc_reading}
use Rattle.escape_framing.specs.declared.event.Read.{Read}
use Rattle.escape_framing.specs.declared.event.Read.TheVariants as read
use Rattle.escape_framing.proofs.HeldLemmas.{held_append}
use Rattle.escape_framing.proofs.SpellLemmas.{placed_same}
use Rattle.escape_stream.specs.Pieces.{Piece, Text, Single, pieces_of, pieces}
use Rattle.escape_stream.specs.PiecesView.{parser_of, open_pieces, held_at_end, items_at, items_left, ready_at, AsksMemory, FirstTakesMemory, ReadsBody, HaveSameBodies, held_at, pieces_at, pieces_after, IsReady, PiecesGo, IsOpen, IsOver, IsUnderWay, GivesPiece, HasGiven, GoesOn, SameBut, FindsHere, HandsOutOf, IsGoing, Begins as BeginsEvent}
use Rattle.escape_stream.specs.Walking.{FindsWhole, FindsPiece, ReadsList}
use Rattle.csi_codec.specs.Tokens.{parameters_of}
use Rattle.escape_framing.specs.Prefixes.{IsShortList}
use Rattle.escape_stream.specs.ParserShown.{Parsing, lending_in}
use Rattle.escape_stream.specs.Sequences.{FirstTakes, Gives, actions_left, event_actions}
use Rattle.escape_stream.specs.StreamAction.{StreamAction, command, csi}
use Rattle.escape_stream.specs.StreamActionView.{value_of}
use Rattle.escape_stream.specs.declared.action.Action.{Action}
use Rattle.escape_stream.specs.declared.pieces.Piece.{Piece as PieceCode}
use Rattle.escape_stream.specs.declared.pieces.Piece.TheVariants as code
use Rattle.escape_stream.specs.declared.pieces.Reading.{Reading as Pieces}
use Rattle.escape_stream.specs.declared.pieces.Stage.{Stage}
use Rattle.escape_stream.specs.declared.sequence.Sequence.{Sequence}
use Rattle.escape_stream.specs.declared.pieces.Stage.TheVariants as stage
use Rattle.escape_stream.proofs.PieceLemmas.{read_pieces, read_after, event_pieces, comes_closer}

-- ---- where a body is read

bodies_at : (old new : Pieces) → new.parser.now.held ≡ old.parser.now.held → new.bytes ≡ old.bytes → new.count ≡ old.count → HaveSameBodies old new
bodies_at old new h b n offset r =
    let held : held_at new offset ≡ held_at old offset = λ i. held_after (h i) (drop (n i) (b i).now) (offset - n i) in (
      record {
        after = subst (λ (k : ℕ). k ≤ offset) n r.after;
        within = rw (sym b) r.within;
        takes = subst (λ (x : Held). TakesMemory x.kept) held r.takes;
      },
      λ start i. pieces_of (framed_after start (start + offset) (held i) (drop offset (b i).now)),
    )

pub bodies_here : (it : Pieces) → HaveSameBodies it it
bodies_here it offset r = (r, λ start. refl)

pub bodies_join : (old mid new : Pieces) → HaveSameBodies old mid → HaveSameBodies mid new → HaveSameBodies old new
bodies_join old mid new g h offset r = let x = h offset r in let y = g offset x.0 in (y.0, λ start. x.1 start ∙ y.1 start)

-- ---- the rest of a control sequence

bodies_too : (old new : Pieces) → SameBut old new → HaveSameBodies old new
bodies_too old new s = bodies_at old new (ap (λ (p : Parsing). p.held) s.parser) s.bytes s.count

ready_too : (old new : Pieces) → SameBut old new → IsUnderWay old → IsUnderWay new
ready_too old new s u = record {
  within = rw (s.count, s.bytes) u.within;
  reached = rw s.parser u.reached;
  carried = rw (s.parser, s.count, s.bytes) u.carried;
}

ends_too : (old new : Pieces) → SameBut old new → held_at_end new ≡ held_at_end old
ends_too old new s = rw (s.parser, s.count, s.bytes) refl

pub ready_with : (it : Pieces) (s : Option Sequence) → IsUnderWay it → IsUnderWay (record it { sequence = s })
ready_with it s u = record { within = u.within; reached = u.reached; carried = u.carried }

pub going_with : (it : Pieces) (s : Option Sequence) → IsGoing it → IsGoing (record it { sequence = s })
going_with it s g = record { «open» = g.open; ready = ready_with it s g.ready; failed = g.failed }

same_with : (it : Pieces) (s : Option Sequence) → SameBut it (record it { sequence = s })
same_with it s = record { same = refl; parser = refl; bytes = refl; count = refl; stage = refl }

pub stays : (it : Pieces) → IsUnderWay it → GoesOn it it
stays it u = record { same = λ start. refl; ready = u; ends = refl; bodies = bodies_here it }

pub gives_action : (first old new : Pieces) (a : Action) → GoesOn first old → SameBut old new → Gives (actions_left old.parser.now.parameters old.sequence) (Some a) (actions_left old.parser.now.parameters new.sequence) → HasGiven first (Some (code.Action a)) new
gives_action first old new a g s e = record {
  gives = λ start. (
    Single (value_of a),
    refl,
    sym (g.same start)
        ∙ ap (λ (q : List StreamAction). map Single q ++ pieces_of (framed_after start (start + old.count) old.parser.now.held (drop old.count old.bytes.now))) e
        ∙ rw (s.parser, s.count, s.bytes) refl,
  );
  ready = ready_too old new s g.ready;
  ends = ends_too old new s ∙ g.ends;
  done = λ z. cc;
  bodies = bodies_join first old new g.bodies (bodies_too old new s);
}

-- only the actions of a control sequence have changed, and what is lent: one is handed out, or they are the same
module _ (old new : Pieces) (u : IsUnderWay old) (h : new.parser.now.held ≡ old.parser.now.held) (b : new.bytes ≡ old.bytes) (k : new.count ≡ old.count) where
  pub ready_alike : IsUnderWay new
  ready_alike = record { within = rw (k, b) u.within; reached = rw h u.reached; carried = rw (h, k, b) u.carried }

  pieces_alike : (start : ℕ) → pieces_of (framed_after start (start + new.count) new.parser.now.held (drop new.count new.bytes.now)) ≡ pieces_of (framed_after start (start + old.count) old.parser.now.held (drop old.count old.bytes.now))
  pieces_alike start i = pieces_of (framed_after start (start + k i) (h i) (drop (k i) (b i).now))

  pub gives_alike : (a : Action) → actions_left old.parser.now.parameters old.sequence ≡ value_of a ∷ actions_left new.parser.now.parameters new.sequence → HasGiven old (Some (code.Action a)) new
  gives_alike a e = record {
    gives = λ start. (Single (value_of a), refl, λ i. map Single (e i) ++ sym (pieces_alike start) i);
    ready = ready_alike;
    ends = rw (h, k, b) refl;
    done = λ z. cc;
    bodies = bodies_at old new h b k;
  }

  pub goes_alike : actions_left old.parser.now.parameters old.sequence ≡ actions_left new.parser.now.parameters new.sequence → GoesOn old new
  goes_alike e = record {
    same = λ start i. map Single (sym e i) ++ pieces_alike start i;
    ready = ready_alike;
    ends = rw (h, k, b) refl;
    bodies = bodies_at old new h b k;
  }

-- nothing is left of it
pub sequence_over : (first old new : Pieces) → GoesOn first old → SameBut old new → actions_left old.parser.now.parameters old.sequence ≡ [] → new.sequence ≡ None → GoesOn first new
sequence_over first old new g s e n = record {
  same = λ start.
      rw (n, s.parser, s.count, s.bytes) (sym (ap (λ (q : List StreamAction). map Single q ++ pieces_of (framed_after start (start + old.count) old.parser.now.held (drop old.count old.bytes.now))) e))
      ∙ g.same start;
  ready = ready_too old new s g.ready;
  ends = ends_too old new s ∙ g.ends;
  bodies = bodies_join first old new g.bodies (bodies_too old new s);
}

-- ---- the end

none_framed : (start count : ℕ) (held : Held) → framed_after start count held [] ≡ []
unfolding placed_after
none_framed start count held = refl

none_handed : (held : Held) → (hand_out held []).held ≡ held
unfolding hand_out
none_handed held = refl

pub gives_none : (first it : Pieces) → GoesOn first it → it.sequence ≡ None → it.count ≡ length it.bytes.now → HasGiven first None it
gives_none first it g q n =
    let d : drop it.count it.bytes.now ≡ [] = drop_of_length-le it.bytes.now (omega arith) in
    record {
      gives = λ start.
          sym (g.same start)
          ∙ rw q (ap (λ (b : List ℕ). pieces_of (framed_after start (start + it.count) it.parser.now.held b)) d ∙ ap pieces_of (none_framed start (start + it.count) it.parser.now.held));
      ready = g.ready;
      ends = g.ends;
      done = λ z. sym (none_handed it.parser.now.held) ∙ ap (λ (b : List ℕ). (hand_out it.parser.now.held b).held) (sym d) ∙ g.ends;
      bodies = g.bodies;
    }

-- ---- the bytes that are read

-- one read of the remaining bytes, where nothing is left of a control sequence
pub record HasRead (old : Pieces) (r : Read) (l : Lending) (new : Pieces) : Type 0 where
  pub under : IsUnderWay old
  pub over : old.sequence ≡ None
  pub reads : ReadsEvent old.parser.now.held (drop old.count old.bytes.now) r l
  pub held : new.parser.now.held ≡ l.held
  pub parameters : new.parser.now.parameters ≡ l.parameters
  pub bytes : new.bytes ≡ old.bytes
  pub count : new.count ≡ old.count + count_of r

pub has_read : (old new : Pieces) (bytes : List ℕ) (found r : Read) (l : Lending) → IsUnderWay old → old.sequence ≡ None → bytes ≡ drop old.count old.bytes.now → found ≡ r → ReadsEvent old.parser.now.held bytes found l
    → new.parser.now.held ≡ l.held → new.parser.now.parameters ≡ l.parameters → new.bytes ≡ old.bytes → new.count ≡ old.count + count_of r → HasRead old r l new
has_read old new bytes found r l u q e f reads h p b n = record {
  under = u;
  over = q;
  reads = subst (λ (x : Read). ReadsEvent old.parser.now.held (drop old.count old.bytes.now) x l) f (subst (λ (x : List ℕ). ReadsEvent old.parser.now.held x found l) e reads);
  held = h;
  parameters = p;
  bytes = b;
  count = n;
}

read_ready : (old new : Pieces) (r : Read) (l : Lending) → HasRead old r l new → IsUnderWay new × (held_at_end new ≡ held_at_end old)
read_ready old new r l h =
    let b = read_after old.count old.parser.now.held old.bytes.now r l h.reads h.under.within h.under.reached h.under.carried in (
      record {
        within = rw (h.count, h.bytes) b.within;
        reached = rw h.held b.reached;
        carried = rw (h.held, h.count, h.bytes) b.carried;
      },
      rw (h.held, h.count, h.bytes) b.ends,
    )

bodies_read : (old new : Pieces) (r : Read) (l : Lending) → HasRead old r l new → HaveSameBodies old new
bodies_read old new r l h offset b =
    let left : drop new.count new.bytes.now ≡ drop (count_of r) (drop old.count old.bytes.now) = (λ i. drop (h.count i) (h.bytes i).now) ∙ sym (drop-drop (count_of r) old.count old.bytes.now) in
    let more : count_of r + (offset - new.count) ≡ offset - old.count = omega (arith, h.count, b.after) in
    let here : held_at new offset ≡ held_after l.held (drop (count_of r) (drop old.count old.bytes.now)) (offset - new.count) = λ i. held_after (h.held i) (left i) (offset - new.count) in
    let held : held_at new offset ≡ held_at old offset
    = here ∙ h.reads.opens h.under.reached (offset - new.count) (subst (λ (x : Held). TakesMemory x.kept) here b.takes) ∙ ap (held_after old.parser.now.held (drop old.count old.bytes.now)) more in (
      record {
        after = omega (arith, h.count, b.after);
        within = rw (sym h.bytes) b.within;
        takes = subst (λ (x : Held). TakesMemory x.kept) held b.takes;
      },
      λ start i. pieces_of (framed_after start (start + offset) (held i) (drop offset (h.bytes i).now)),
    )

read_whole : (old new : Pieces) (r : Read) (l : Lending) (h : HasRead old r l new) (start : ℕ) → pieces_of (framed_after start (start + old.count) old.parser.now.held (drop old.count old.bytes.now)) ≡ open_pieces start old
read_whole old new r l h start = rw h.over refl

pub gives_text : (old new : Pieces) (n : ℕ) (l : Lending) (t : Bor (List ℕ)) → HasRead old (read.Text n) l new → new.sequence ≡ None → t.now ≡ take n (drop old.count old.bytes.now) → HasGiven old (Some (code.Text t)) new
gives_text old new n l t h q k =
    let w = read_ready old new (read.Text n) l h in
    record {
      gives = λ start. (
        Text (start + old.count) (take n (drop old.count old.bytes.now)),
        k,
        sym (read_whole old new (read.Text n) l h start)
            ∙ read_pieces old.count old.parser.now.held old.bytes.now (read.Text n) l h.reads start h.under.reached h.under.carried
            ∙ rw (q, h.held, h.count, h.bytes) refl,
      );
      ready = w.0;
      ends = w.1;
      done = λ z. cc;
      bodies = bodies_read old new (read.Text n) l h;
    }

-- an event, whose first action is handed out, if there is one
module _ (old new : Pieces) (n : ℕ) (l : Lending) (e : Event) (h : HasRead old (read.Bytes (Some e) n) l new) where
  event_whole : (start : ℕ) (left : List StreamAction) → event_actions l e ≡ left → open_pieces start old ≡ map Single left ++ pieces_of (framed_after start (start + new.count) new.parser.now.held (drop new.count new.bytes.now))
  event_whole start left g =
      sym (read_whole old new (read.Bytes (Some e) n) l h start)
      ∙ read_pieces old.count old.parser.now.held old.bytes.now (read.Bytes (Some e) n) l h.reads start h.under.reached h.under.carried
      ∙ event_pieces l e (pieces_of (framed_after start (start + (old.count + n)) l.held (drop (old.count + n) old.bytes.now)))
      ∙ ap (λ (xs : List StreamAction). map Single xs ++ pieces_of (framed_after start (start + (old.count + n)) l.held (drop (old.count + n) old.bytes.now))) g
      ∙ rw (h.held, h.count, h.bytes) refl

  pub gives_event : (a : Action) → Gives (event_actions l e) (Some a) (actions_left new.parser.now.parameters new.sequence) → HasGiven old (Some (code.Action a)) new
  gives_event a g =
      let w = read_ready old new (read.Bytes (Some e) n) l h in
      record {
        gives = λ start. (Single (value_of a), refl, event_whole start (value_of a ∷ actions_left new.parser.now.parameters new.sequence) g);
        ready = w.0;
        ends = w.1;
        done = λ z. cc;
        bodies = bodies_read old new (read.Bytes (Some e) n) l h;
      }

  pub goes_event : event_actions l e ≡ [] → new.sequence ≡ None → GoesOn old new
  goes_event g q =
      let w = read_ready old new (read.Bytes (Some e) n) l h in
      record {
        same = λ start. sym (event_whole start [] g ∙ rw q refl);
        ready = w.0;
        ends = w.1;
        bodies = bodies_read old new (read.Bytes (Some e) n) l h;
      }

  -- all its actions remain, as those of a control sequence
  pub goes_begun : (s : Sequence) → event_actions l e ≡ actions_left new.parser.now.parameters (Some s) → GoesOn old (record new { sequence = Some s })
  goes_begun s g =
      let w = read_ready old new (read.Bytes (Some e) n) l h in
      record {
        same = λ start. sym (event_whole start (actions_left new.parser.now.parameters (Some s)) g);
        ready = ready_with new (Some s) w.0;
        ends = w.1;
        bodies = bodies_join old new (record new { sequence = Some s }) (bodies_read old new (read.Bytes (Some e) n) l h) (bodies_too new (record new { sequence = Some s }) (same_with new (Some s)));
      }

-- the first action of a control sequence
pub begins_sequence : (old new : Pieces) (e : Event) (s : Sequence) (answer : Result (Option Action) AllocError) → HandsOutOf (record old { sequence = Some s }) (Some s) answer new → actions_left old.parser.now.parameters (Some s) ≡ event_actions (lending_in old.parser.now) e → BeginsEvent old e answer new
begins_sequence old new e s answer h is = record {
  same = h.remaining.same;
  parser = h.remaining.parser ∙ ap (λ (b : List ℕ). record old.parser.now { body = b }) (sym (ap (λ (p : Parsing). p.body) h.remaining.parser));
  bytes = h.remaining.bytes;
  count = h.remaining.count;
  stage = h.remaining.stage;
  gives = subst (λ (xs : List StreamAction). IfOk answer (λ next. Gives xs next (actions_left old.parser.now.parameters new.sequence))) is h.gives;
  over = h.over;
  memory = subst (λ (xs : List StreamAction). OnErr answer (FirstTakes xs)) is h.memory;
}

-- ---- pieces that are handed out after a step that hands out none

pub given_after : (old mid new : Pieces) (piece : Option PieceCode) → GoesOn old mid → HasGiven mid piece new → HasGiven old piece new
given_after old mid new piece g h = record {
  gives = λ start. subst (λ (x : List Piece). GivesPiece x piece (open_pieces start new)) (g.same start) (h.gives start);
  ready = h.ready;
  ends = h.ends ∙ g.ends;
  done = λ z. h.done z ∙ g.ends;
  bodies = bodies_join old mid new g.bodies h.bodies;
}

pub found_after : (old mid new : Pieces) (piece : Option PieceCode) → GoesOn old mid → FindsHere mid piece new → is_some piece ≡ true → HasGiven old piece new
found_after old mid new None g h e = cc
found_after old mid new (Some piece) g h e = given_after old mid new (Some piece) g h

-- ---- where memory is taken

first_takes : (xs : List StreamAction) (ps : List Piece) → FirstTakes xs → FirstTakesMemory (map Single xs ++ ps)
first_takes [] ps t = absurd t
first_takes (x ∷ xs) ps t = t

pub on_refusal : {A : Type 0} (answer : Result A AllocError) (it : Pieces) → AsksMemory it → OnErr answer (AsksMemory it)
on_refusal (Ok value) it asks = tt
on_refusal (Err error) it asks = asks

-- for a body that is read on
at_prefix : (held : Held) (bytes : List ℕ) → held ≡ held_after held bytes 0
unfolding hand_out
at_prefix held bytes = refl

pub asks_body : (it : Pieces) → IsUnderWay it → it.sequence ≡ None → TakesMemory it.parser.now.held.kept → AsksMemory it
asks_body it u over t =
    let z : 0 ≡ it.count - it.count = omega arith in
    let bytes = drop it.count it.bytes.now in
    let held : it.parser.now.held ≡ held_at it it.count = at_prefix it.parser.now.held bytes ∙ ap (held_after it.parser.now.held bytes) z in
    inl (
      it.count,
      record {
        reads = record { after = omega arith; within = u.within; takes = subst (λ (x : Held). TakesMemory x.kept) held t };
        first = λ start. rw over (ap (λ (x : Held). pieces_of (framed_after start (start + it.count) x bytes)) held);
      },
    )

-- an iterator takes memory for its next piece, if it does after a step that hands out none
pub asks_before : (old mid : Pieces) → GoesOn old mid → AsksMemory mid → AsksMemory old
asks_before old mid g (inl (offset, f)) =
    let b = g.bodies offset f.reads in
    inl (offset, record { reads = b.0; first = λ start. sym (g.same start) ∙ f.first start ∙ b.1 start })
asks_before old mid g (inr f) = inr (λ start. subst FirstTakesMemory (g.same start) (f start))

-- for the action of an event
pub asks_event : (old new : Pieces) (n : ℕ) (l : Lending) (e : Event) → HasRead old (read.Bytes (Some e) n) l new → FirstTakes (event_actions l e) → AsksMemory old
asks_event old new n l e h t = inr (λ start. subst FirstTakesMemory (sym (event_whole old new n l e h start (event_actions l e) refl)) (first_takes (event_actions l e) _ t))

-- ---- a whole command

-- what the framer of a parser reads, the parser does
pub framer_reads : (f : Lending) (p : Parsing) (bytes rest : List ℕ) (r : Read) (lent : Lending → Lending) → f ≡ lending_in p → bytes ≡ rest → ReadsEvent f.held bytes r (lent f)
    → ReadsEvent p.held rest r (lent (lending_in p))
framer_reads f p bytes rest r lent is at reads = subst (λ (x : List ℕ). ReadsEvent p.held x r (lent (lending_in p))) at (subst (λ (l : Lending). ReadsEvent l.held bytes r (lent l)) is reads)

pub finds_command : (old : Pieces) (n : ℕ) (body : List ℕ) (answer : Result Action AllocError) → IsGoing old → old.sequence ≡ None → old.count ≢ length old.bytes.now
    → ReadsEvent old.parser.now.held (drop old.count old.bytes.now) (whole_command n) (record (lending_in old.parser.now) { body = body }) → IfOk answer (λ action. value_of action ≡ command (osc_reading (parts_of body)))
    → FindsWhole old (Some answer) (record old { count = old.count + n })
finds_command old n body answer going over some reads is = record {
  same = refl;
  stage = refl;
  failed = going.failed;
  finds = found answer is;
  closer = comes_closer old.count old.parser.now.held old.bytes.now (whole_command n) l reads going.ready.within some;
  none = λ z. cc;
  memory = on_refusal answer old (asks_event old new n l event.OperatingSystemCommand h tt);
}
  where
    l : Lending
    l = record (lending_in old.parser.now) { body = body }

    new : Pieces
    new = record old { count = old.count + n }

    h : HasRead old (whole_command n) l new
    h = record { under = going.ready; over = over; reads = reads; held = refl; parameters = refl; bytes = refl; count = refl }

    found : (answer : Result Action AllocError) → IfOk answer (λ action. value_of action ≡ command (osc_reading (parts_of body))) → IfOk answer (λ action. HasGiven old (Some (code.Action action)) new)
    found (Ok action) is = gives_event old new n l event.OperatingSystemCommand h action (λ i. sym is i ∷ actions_left old.parser.now.parameters (sym over i))
    found (Err error) is = tt

-- ---- an event or a text at the start

pub finds_event : {A : Type 0} (piece_of : A → PieceCode) (old : Pieces) (n : ℕ) (e : Event) (found : A) (action : Action) → piece_of found ≡ code.Action action → IsGoing old → old.sequence ≡ None
    → ReadsEvent old.parser.now.held (drop old.count old.bytes.now) (read.Bytes (Some e) n) (lending_in old.parser.now) → event_actions (lending_in old.parser.now) e ≡ value_of action ∷ [] → FindsPiece piece_of old (Some found) (record old { count = old.count + n })
finds_event piece_of old n e found action is going over reads gives =
    let l = lending_in old.parser.now in
    let new : Pieces = record old { count = old.count + n } in
    let h : HasRead old (read.Bytes (Some e) n) l new = record { under = going.ready; over = over; reads = reads; held = refl; parameters = refl; bytes = refl; count = refl } in
    record {
      same = refl;
      stage = refl;
      failed = going.failed;
      finds = subst (λ (x : PieceCode). HasGiven old (Some x) new) (sym is)
          (gives_event old new n l e h action (gives ∙ ap (λ (q : Option Sequence). value_of action ∷ actions_left old.parser.now.parameters q) (sym over)));
      none = λ z. cc;
    }

pub finds_text : (old : Pieces) (n : ℕ) (t : Bor (List ℕ)) → IsGoing old → old.sequence ≡ None → ReadsEvent old.parser.now.held (drop old.count old.bytes.now) (read.Text n) (lending_in old.parser.now) → t.now ≡ take n (drop old.count old.bytes.now)
    → FindsPiece (λ (x : Bor (List ℕ)). code.Text x) old (Some t) (record old { count = old.count + n })
finds_text old n t going over reads is =
    let l = lending_in old.parser.now in
    let new : Pieces = record old { count = old.count + n } in
    let h : HasRead old (read.Text n) l new = record { under = going.ready; over = over; reads = reads; held = refl; parameters = refl; bytes = refl; count = refl } in
    record { same = refl; stage = refl; failed = going.failed; finds = gives_text old new n l t h over is; none = λ z. cc }

-- ---- a control sequence at the start

pub reads_listed : (old : Pieces) (list : Bor (List ℕ)) (b n : ℕ) → n ≡ length list.now + 3 → IsGoing old → old.sequence ≡ None → IsShortList list.now
    → ReadsEvent old.parser.now.held (drop old.count old.bytes.now) (whole_sequence b (length list.now + 3)) (record (lending_in old.parser.now) { parameters = parameters_of list.now })
    → ReadsList old (Some (list, b)) (record old { count = old.count + n })
reads_listed old list b n k going over short reads =
    let l = record (lending_in old.parser.now) { parameters = parameters_of list.now } in
    let new : Pieces = record old { count = old.count + n; parser = record old.parser { now = record old.parser.now { parameters = parameters_of list.now } } } in
    let h : HasRead old (whole_sequence b (length list.now + 3)) l new = record { under = going.ready; over = over; reads = reads; held = refl; parameters = refl; bytes = refl; count = ap (λ (m : ℕ). old.count + m) k } in
    let w = read_ready old new (whole_sequence b (length list.now + 3)) l h in
    record {
      same = refl;
      stage = refl;
      parser = refl;
      over = over;
      ready = record { within = w.0.within; reached = w.0.reached; carried = w.0.carried };
      list = short;
      reads = λ offset starts. goes_begun old new (length list.now + 3) l (event.ControlSequence b) h (record { offset = offset; control = b })
          (ap (map csi) (sym (starts (parameters_of list.now).tokens (parameters_of list.now).truncated b)));
      none = λ z. cc;
    }

-- ---- where pieces begin

-- an iterator of the bytes after a stream, before its first step
pub record Begins (it : Pieces) (stream bytes : List ℕ) : Type 0 where
  pub ready : IsUnderWay it
  pub pieces : open_pieces (length stream) it ≡ pieces stream bytes
  pub ends : held_at_end it ≡ held_of (stream ++ bytes)

some_bytes : (xs : List ℕ) → xs ≢ [] → 0 < 0 + length xs
some_bytes [] n = absurd (n refl)
some_bytes (x ∷ xs) n = omega arith

pub begins : (it : Pieces) (stream bytes : List ℕ) → it.parser.now.held ≡ held_of stream → it.count ≡ 0 → it.bytes.now ≡ bytes → it.sequence ≡ None → Begins it stream bytes
begins it stream bytes h n b q = record {
  ready = record {
    within = rw n (omega arith);
    reached = (stream, h);
    carried = record { carried = λ c more l e z. rw n (some_bytes (begun_bytes it.parser.now.held) z) };
  };
  pieces = rw (q, n, b, h) (let k : length stream + 0 ≡ length stream = omega arith in ap (λ (m : ℕ). pieces_of (framed_after (length stream) m (held_of stream) bytes)) k ∙ ap (λ l. pieces_of (framed (length stream) l)) (placed_same bytes stream));
  ends = rw (n, b, h) (sym (held_append stream bytes));
}

-- a body that is read in a call
pub body_after : (it : Pieces) (stream bytes : List ℕ) → it.parser.now.held ≡ held_of stream → it.count ≡ 0 → it.bytes.now ≡ bytes → (offset : ℕ) → ReadsBody it offset
    → (offset ≤ length bytes) × TakesMemory (held_of (stream ++ take offset bytes)).kept × (pieces_at (length stream) it offset ≡ pieces_after stream bytes offset)
body_after it stream bytes h n b offset r =
    let z : offset - it.count ≡ offset = omega (arith, n) in
    let held : held_at it offset ≡ held_of (stream ++ take offset bytes) = (λ i. (hand_out (h i) (take (z i) (drop (n i) (b i)))).held) ∙ sym (held_append stream (take offset bytes)) in (
      subst (λ (x : List ℕ). offset ≤ length x) b r.within,
      subst (λ (x : Held). TakesMemory x.kept) held r.takes,
      λ i. pieces_of (framed_after (length stream) (length stream + offset) (held i) (drop offset (b i))),
    )

-- ---- how far it is to the end

-- a piece was handed out, so fewer are left
pub fewer_left : (old new : Pieces) (piece : PieceCode) → HasGiven old (Some piece) new → length (open_pieces 0 new) < length (open_pieces 0 old)
fewer_left old new piece g = let p = g.gives 0 in omega (arith, ap length p.2)

left_open : (it : Pieces) → IsOpen it → items_left it ≡ 1 + length (open_pieces 0 it)
left_open it o = ap (λ (s : Stage). items_at s (open_pieces 0 it)) o

left_over : (it : Pieces) → IsOver it → items_left it ≡ 0
left_over it o = ap (λ (s : Stage). items_at s (open_pieces 0 it)) o

-- one that is open can be asked again, and is nearer to its end
goes_nearer : (old new : Pieces) (piece : PieceCode) → IsOpen old → IsOpen new → HasGiven old (Some piece) new → (parser_of new).failed ≡ true → IsReady new × (items_left new < items_left old)
goes_nearer old new piece o n g f = (subst (λ (s : Stage). ready_at s new) (sym n) (g.ready, f), omega (arith, fewer_left old new piece g, left_open old o, left_open new n))

-- one that is over
goes_over : (old new : Pieces) → IsOpen old → IsOver new → IsReady new × (items_left new < items_left old)
goes_over old new o n = (subst (λ (s : Stage). ready_at s new) (sym n) tt, omega (arith, left_open old o, left_over new n))

pub progress : (old new : Pieces) (answer : Option (Result PieceCode ParseError)) → IsOpen old → PiecesGo old answer new → MakesProgress IsReady (λ it. at_most (items_left it)) old answer new
progress old new (Some (Ok piece)) o g = let k = goes_nearer old new piece o g.items.1 g.items.2 g.parser in record { on = λ _. (k.0, tt, k.1); keeps = k.0; rests = λ _. tt }
progress old new (Some (Err refusal.Memory)) o g = let k = goes_over old new o g.items.1 in record { on = λ _. (k.0, tt, k.1); keeps = k.0; rests = λ _. tt }
progress old new (Some (Err refusal.Failed)) o g = let e : stage.Open ≡ stage.Failed = sym o ∙ g.items.0 in cc
progress old new None o g = record { on = λ _. tt; keeps = tt; rests = λ _. tt }

-- the list of remaining actions may be replaced by an equal one
pub gives_left : (before after other : List StreamAction) (action : Option Action) → Gives before action after → (is_none action ≡ false → after ≡ other) → Gives before action other
gives_left before after other None g h = g
gives_left before after other (Some a) g h = g ∙ ap (λ (xs : List StreamAction). value_of a ∷ xs) (h refl)

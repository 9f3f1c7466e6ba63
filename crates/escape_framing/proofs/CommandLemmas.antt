-- Operating system commands that are whole at the start of the bytes.
use Rattle.std.proofs.Common.{◌≡◌, ◌⊎◌, inl, inr, ℕ, suc, ◌+◌, ◌<◌, ◌≤◌, true, false, List, [], ◌∷◌, ◌++◌, length, map, take, drop, Option, Some, None, refl, sym, ap, subst, ◌∙◌, arith}
use Rattle.std.proofs.lemmas.List.{drop-drop, length-drop}
use Rattle.csi_codec.specs.Tokens.{Parameters}
use Rattle.std.specs.List.{prefix_len, list_all}
use Rattle.std.proofs.lemmas.List.Folds.{length-prefix_len}
use Rattle.std.proofs.lemmas.List.Sums.{prefix_len-le-length}
use Rattle.escape_framing.specs.Bytes.{is_stop, is_embedded, is_intermediate, is_cut, is_opener}
use Rattle.escape_framing.specs.Held.{InEscape, Held, TakesMemory, command_step, escape_step, opened, fresh_step, held_step, nothing_held, hand_out}
use Rattle.escape_framing.specs.Framed.{Single, framed_after, no_text, IsReached, IsCarried, Frames}
use Rattle.escape_framing.specs.Prefixes.{is_body_byte}
use Rattle.escape_framing.specs.Lending.{Lending}
use Rattle.escape_framing.specs.Event.{handed_out}
use Rattle.escape_framing.specs.Read.{whole_command, ReadsEvent, TakesMemoryAt, held_after}
use Rattle.escape_framing.specs.declared.event.Event.{Event}
use Rattle.escape_framing.specs.declared.event.Event.TheVariants as event
use Rattle.escape_framing.specs.declared.event.Read.TheVariants as read
use Rattle.escape_framing.proofs.RunLemmas.{IsSilent}
use Rattle.escape_framing.proofs.PrefixLemmas.{reads_run, opening_handed}
use Rattle.escape_framing.proofs.ReadEventLemmas.{reads_one, reads_left}
use Rattle.escape_framing.proofs.RunLemmas.{all_pass, quiet_prefix, body_handed, in_command}

-- ---- a run, and an event after it

reads_after : (old : Held) (bytes : List ℕ) (n m : ℕ) (e : Option Event) (mid l : Lending) → IsReached mid.held → 0 < n → ReadsEvent old bytes (read.Bytes None n) mid → ReadsEvent mid.held (drop n bytes) (read.Bytes e m) l → ReadsEvent old bytes (read.Bytes e (n + m)) l
reads_after old bytes n m e mid l reached z a b = record {
  frames = λ count r k. both count (a.frames count r k);
  within = let x : n ≤ length bytes = a.within in let y : m ≤ length (drop n bytes) = b.within in omega (arith, x, y, length-drop n bytes);
  text = no_text;
  moves = λ x y. absurd (let k : n + m ≡ 0 = x in omega (arith, z, k));
  opens = λ r k t.
      let q : n + (m + k) ≡ n + m + k = omega arith in
      let d = sym (drop-drop m n bytes) in
      let second = b.opens reached k (subst (λ (x : List ℕ). TakesMemoryAt l.held x k) d t) in
      ap (λ (x : List ℕ). held_after l.held x k) d
      ∙ second
      ∙ a.opens r (m + k) (subst (λ (h : Held). TakesMemory h.kept) second (subst (λ (x : List ℕ). TakesMemoryAt l.held x k) d t))
      ∙ ap (held_after old bytes) q;
}
  where
    both : (count : ℕ) → Frames count old bytes (λ from. []) n mid.held → Frames count old bytes (λ from. map Single (handed_out l e)) (n + m) l.held
    both count f =
        let g = b.frames (count + n) f.reached f.carried in
        record {
          within = omega (arith, f.within, g.within, length-drop n bytes);
          lends = λ start.
              f.lends start
              ∙ (let q : start + count + n ≡ start + (count + n) = omega arith in ap (λ (c : ℕ). framed_after start c mid.held (drop n bytes)) q)
              ∙ g.lends start
              ∙ (let q : start + (count + n) + m ≡ start + count + (n + m) = omega arith in λ i. map Single (handed_out l e) ++ framed_after start (q i) l.held (drop-drop m n bytes i));
          keeps = f.keeps ∙ g.keeps ∙ ap (λ (x : List ℕ). (hand_out l.held x).held) (drop-drop m n bytes);
          reached = g.reached;
          carried = (let q : count + n + m ≡ count + (n + m) = omega arith in subst (λ (c : ℕ). IsCarried 0 c l.held (drop (n + m) bytes)) q (subst (IsCarried 0 (count + n + m) l.held) (drop-drop m n bytes) g.carried));
        }

-- ---- the begin of a command, and its body

bracket_handed : held_step (record { kept = InEscape []; waiting = false }) 0x5D ≡ record { dispatches = []; held = in_command [] }
unfolding held_step fresh_step escape_step opened is_embedded is_stop is_intermediate is_cut is_opener
bracket_handed = refl

two_more : (n : ℕ) → n + 2 ≡ suc (suc n)
two_more n = omega arith

body_silent : (remaining body : List ℕ) → body ≡ take (prefix_len is_body_byte remaining) remaining → IsSilent nothing_held (0x1B ∷ 0x5D ∷ remaining) (length body + 2) (in_command body)
body_silent remaining body k =
    let l : length body ≡ prefix_len is_body_byte remaining = ap length k ∙ length-prefix_len is_body_byte remaining in
    let t : take (length body + 2) (0x1B ∷ 0x5D ∷ remaining) ≡ 0x1B ∷ 0x5D ∷ body =
    ap (λ (n : ℕ). take n (0x1B ∷ 0x5D ∷ remaining)) (two_more (length body)) ∙ ap (λ (x : List ℕ). 0x1B ∷ 0x5D ∷ x) (ap (λ (n : ℕ). take n remaining) l ∙ sym k) in
    quiet_prefix nothing_held (in_command body) (0x1B ∷ 0x5D ∷ remaining) (length body + 2) (let m = prefix_len-le-length is_body_byte remaining in omega (arith, l))
    (ap (hand_out nothing_held) t ∙ opening_handed 0x5D (in_command []) body bracket_handed ∙ body_handed [] body (subst (λ (x : List ℕ). list_all is_body_byte x ≡ true) (sym k) (all_pass is_body_byte remaining)))
    refl

-- ---- its end

abbrev shown : Parameters → List ℕ → Lending
shown p body = record { held = nothing_held; parameters = p; body = body }

reads_end : (p : Parameters) (body rest : List ℕ) (b m : ℕ) → (b ≡ 0x07) × (m ≡ 1) ⊎ (b ≡ 0x1B) × (m ≡ 0) → ReadsEvent (in_command body) (b ∷ rest) (whole_command m) (shown p body)
unfolding held_step fresh_step command_step is_stop
reads_end p body rest b m (inl (e, k)) = subst (λ (n : ℕ). ReadsEvent (in_command body) (b ∷ rest) (whole_command n) (shown p body)) (sym k) (
    reads_one (in_command body) b rest (b ∷ rest) (shown p body) (Some event.OperatingSystemCommand) refl (ap (held_step (in_command body)) e) (λ t. cc))
reads_end p body rest b m (inr (e, k)) = subst (λ (n : ℕ). ReadsEvent (in_command body) (b ∷ rest) (whole_command n) (shown p body)) (sym k) (
    subst (λ (c : ℕ). ReadsEvent (in_command body) (c ∷ rest) (whole_command 0) (shown p body)) (sym e) (
    reads_left (in_command body) 0x1B rest (0x1B ∷ rest) (shown p body) (Some event.OperatingSystemCommand) refl refl
    (record { falls = omega arith; closed = inl refl; waits = λ w. cc; alone = tt })))

pub reads_command : (l : Lending) (bytes remaining body rest : List ℕ) (b m n : ℕ) → l.held ≡ nothing_held → bytes ≡ 0x1B ∷ 0x5D ∷ remaining → body ≡ take (prefix_len is_body_byte remaining) remaining → drop (length body) remaining ≡ b ∷ rest
    → (b ≡ 0x07) × (m ≡ 1) ⊎ (b ≡ 0x1B) × (m ≡ 0) → n ≡ length body + 2 + m → ReadsEvent l.held bytes (whole_command n) (record l { body = body })
reads_command l bytes remaining body rest b m n h is k d e s =
    let begun : Lending = record { held = in_command body; parameters = l.parameters; body = body } in
    let left : drop (length body + 2) (0x1B ∷ 0x5D ∷ remaining) ≡ b ∷ rest = ap (λ (x : ℕ). drop x (0x1B ∷ 0x5D ∷ remaining)) (two_more (length body)) ∙ d in
    let read_it : ReadsEvent nothing_held (0x1B ∷ 0x5D ∷ remaining) (whole_command (length body + 2 + m)) (shown l.parameters body) =
    reads_after nothing_held (0x1B ∷ 0x5D ∷ remaining) (length body + 2) m (Some event.OperatingSystemCommand) begun (shown l.parameters body) (take (length body + 2) (0x1B ∷ 0x5D ∷ remaining), sym (body_silent remaining body k).keeps) (omega arith)
    (reads_run nothing_held (0x1B ∷ 0x5D ∷ remaining) (length body + 2) begun (omega arith) (body_silent remaining body k))
    (subst (λ (x : List ℕ). ReadsEvent (in_command body) x (whole_command m) (shown l.parameters body)) (sym left) (reads_end l.parameters body rest b m e)) in
    subst (λ (x : Held). ReadsEvent x bytes (whole_command n) (record l { held = x; body = body })) (sym h)
    (subst (λ (x : List ℕ). ReadsEvent nothing_held x (whole_command n) (shown l.parameters body)) (sym is)
    (subst (λ (x : ℕ). ReadsEvent nothing_held (0x1B ∷ 0x5D ∷ remaining) (whole_command x) (shown l.parameters body)) (sym s) read_it))

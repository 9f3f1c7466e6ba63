-- The clusters of a text, cut one by one: after a boundary the rules don't depend on the text before it.
use Rattle.std.proofs.Common.{◌≡◌, ℕ, Bool, true, false, not, ◌&&◌, ◌||◌, List, [], ◌∷◌, ◌++◌, map, unwrap_or, refl, sym, ap, ◌∙◌, append-nil}
use Rattle.std.specs.Prelude.{if◌then◌else◌}
use Rattle.std.proofs.lemmas.Bool.{false≢true, not-true, or_from}
use Rattle.ucd_breaks.specs.GraphemeClusterBreak.{grapheme_cluster_break}
use Rattle.ucd_breaks.specs.declared.GraphemeClusterBreak.{GraphemeClusterBreak}
use Rattle.ucd_breaks.specs.declared.GraphemeClusterBreak.TheVariants.{Control, Cr, Extend, L, Lf, Lv, Lvt, Prepend, RegionalIndicator, SpacingMark, T, V, Other, Zwj}
use Rattle.ucd_derived.specs.IndicConjunctBreak.{indic_conjunct_break}
use Rattle.ucd_derived.specs.declared.IndicConjunctBreak.{IndicConjunctBreak}
use Rattle.ucd_derived.specs.declared.IndicConjunctBreak.TheVariants as InCb
use Rattle.ucd_emoji.specs.Binary.{is_extended_pictographic}
use Rattle.unicode_segmentation.specs.Grapheme.{break_by_pair, ends_in_linker, is_consonant, joins_conjunct, is_extend, is_zwj, is_regional, ends_in_pictograph, joins_emoji, ends_in_half_flag, is_grapheme_break}
use Rattle.unicode_segmentation.specs.Segments.{cut, prepend}
use Rattle.text_clusters.proofs.CharacterFacts.{joins_left, is_control, is_conjunct_extend, is_conjunct_mark, extend_joins_left, control_is_no_mark, control_is_no_pictograph}

pub by_test : {P : Type 0} (b : Bool) → (b ≡ true → P) → (b ≡ false → P) → P
by_test {P} b is not_is = (elim b as (λ w. b ≡ w → P) [ true ↦ is | false ↦ not_is ]) refl

-- the rules for extended clusters
abbrev pub breaks : List ℕ → List ℕ → Bool
breaks = is_grapheme_break true

abbrev pub pieces : List ℕ → List ℕ → List (List ℕ)
pieces before cs = cut breaks before cs []

-- ---- the context that the rules use

-- after this character the rules' lookups give the same result with the characters before it as without them
pub record Forgets (d : ℕ) (before : List ℕ) : Type 0 where
  pub linker : ends_in_linker (map indic_conjunct_break (d ∷ before)) ≡ ends_in_linker (map indic_conjunct_break (d ∷ []))
  pub pictograph : ends_in_pictograph (d ∷ before) ≡ ends_in_pictograph (d ∷ [])
  pub joiner : (is_zwj (grapheme_cluster_break d) && ends_in_pictograph before) ≡ false
  pub flag : ends_in_half_flag (d ∷ before) ≡ ends_in_half_flag (d ∷ [])

module _ (d : ℕ) (before : List ℕ) (forgets : Forgets d before) where
  linker_step : (v : IndicConjunctBreak) (xs ys : List IndicConjunctBreak) → ends_in_linker xs ≡ ends_in_linker ys → ends_in_linker (v ∷ xs) ≡ ends_in_linker (v ∷ ys)
  unfolding ends_in_linker
  linker_step InCb.Consonant xs ys e = refl
  linker_step InCb.Extend xs ys e = e
  linker_step InCb.Linker xs ys e = refl
  linker_step InCb.None xs ys e = refl

  linker_kept : (x : List ℕ) → ends_in_linker (map indic_conjunct_break (x ++ d ∷ before)) ≡ ends_in_linker (map indic_conjunct_break (x ++ d ∷ []))
  linker_kept [] = forgets.linker
  linker_kept (c ∷ x) = linker_step (indic_conjunct_break c) _ _ (linker_kept x)

  pictograph_kept : (x : List ℕ) → ends_in_pictograph (x ++ d ∷ before) ≡ ends_in_pictograph (x ++ d ∷ [])
  unfolding ends_in_pictograph
  pictograph_kept [] = forgets.pictograph
  pictograph_kept (c ∷ x) = ap (λ t. is_extended_pictographic c || (is_extend (grapheme_cluster_break c) && t)) (pictograph_kept x)

  flag_kept : (x : List ℕ) → ends_in_half_flag (x ++ d ∷ before) ≡ ends_in_half_flag (x ++ d ∷ [])
  unfolding ends_in_half_flag
  flag_kept [] = forgets.flag
  flag_kept (c ∷ x) = ap (λ t. is_regional (grapheme_cluster_break c) && not t) (flag_kept x)

  and_false : (a : Bool) → (a && false) ≡ false
  and_false true = refl
  and_false false = refl

  emoji_first : (next : ℕ) → joins_emoji (d ∷ before) next ≡ joins_emoji (d ∷ []) next
  unfolding ends_in_pictograph
  emoji_first next = ap (λ t. t && is_extended_pictographic next) (forgets.joiner ∙ sym (and_false (is_zwj (grapheme_cluster_break d))))

  emoji_kept : (x : List ℕ) (next : ℕ) → joins_emoji (x ++ d ∷ before) next ≡ joins_emoji (x ++ d ∷ []) next
  emoji_kept [] next = emoji_first next
  emoji_kept (c ∷ x) next = ap (λ t. is_zwj (grapheme_cluster_break c) && t && is_extended_pictographic next) (pictograph_kept x)

  break_kept : (x after : List ℕ) → breaks (x ++ d ∷ before) after ≡ breaks (x ++ d ∷ []) after
  unfolding is_grapheme_break
  break_kept [] [] = refl
  break_kept (c ∷ x) [] = refl
  break_kept [] (next ∷ after) = λ i.
      unwrap_or (break_by_pair true (grapheme_cluster_break d) (grapheme_cluster_break next))
      (not ((linker_kept [] i && is_consonant (indic_conjunct_break next)) || emoji_kept [] next i || (flag_kept [] i && is_regional (grapheme_cluster_break next))))
  break_kept (c ∷ x) (next ∷ after) = λ i.
      unwrap_or (break_by_pair true (grapheme_cluster_break c) (grapheme_cluster_break next))
      (not ((linker_kept (c ∷ x) i && is_consonant (indic_conjunct_break next)) || emoji_kept (c ∷ x) next i || (flag_kept (c ∷ x) i && is_regional (grapheme_cluster_break next))))

  cut_kept : (x cs : List ℕ) → pieces (x ++ d ∷ before) cs ≡ pieces (x ++ d ∷ []) cs
  unfolding cut
  cut_kept x [] = refl
  cut_kept x (c ∷ cs) = λ i.
      if break_kept (c ∷ x) (cs ++ []) i then (c ∷ []) ∷ cut_kept (c ∷ x) cs i else prepend (c ∷ []) (cut_kept (c ∷ x) cs i)

  -- from d on the text is cut as if nothing were before it
  pub cut_after : (cs : List ℕ) → pieces before (d ∷ cs) ≡ pieces [] (d ∷ cs)
  unfolding cut
  cut_after cs = λ i.
      if break_kept [] (cs ++ []) i then (d ∷ []) ∷ cut_kept [] cs i else prepend (d ∷ []) (cut_kept [] cs i)

-- ---- a boundary

-- a text is cut before a character that joins to its left only after a control
after_extend : (g : GraphemeClusterBreak) (r : Bool) → unwrap_or (break_by_pair true g Extend) r ≡ true → is_control g ≡ true
after_extend Control r e = refl
after_extend Cr r e = refl
after_extend Extend r e = e
after_extend L r e = e
after_extend Lf r e = refl
after_extend Lv r e = e
after_extend Lvt r e = e
after_extend Prepend r e = e
after_extend RegionalIndicator r e = e
after_extend SpacingMark r e = e
after_extend T r e = e
after_extend V r e = e
after_extend Other r e = e
after_extend Zwj r e = e

after_joiner : (g : GraphemeClusterBreak) (r : Bool) → unwrap_or (break_by_pair true g Zwj) r ≡ true → is_control g ≡ true
after_joiner Control r e = refl
after_joiner Cr r e = refl
after_joiner Extend r e = e
after_joiner L r e = e
after_joiner Lf r e = refl
after_joiner Lv r e = e
after_joiner Lvt r e = e
after_joiner Prepend r e = e
after_joiner RegionalIndicator r e = e
after_joiner SpacingMark r e = e
after_joiner T r e = e
after_joiner V r e = e
after_joiner Other r e = e
after_joiner Zwj r e = e

after_control : (g h : GraphemeClusterBreak) (r : Bool) → joins_left h ≡ true → unwrap_or (break_by_pair true g h) r ≡ true → is_control g ≡ true
after_control g Control r j e = absurd (false≢true j)
after_control g Cr r j e = absurd (false≢true j)
after_control g Extend r j e = after_extend g r e
after_control g L r j e = absurd (false≢true j)
after_control g Lf r j e = absurd (false≢true j)
after_control g Lv r j e = absurd (false≢true j)
after_control g Lvt r j e = absurd (false≢true j)
after_control g Prepend r j e = absurd (false≢true j)
after_control g RegionalIndicator r j e = absurd (false≢true j)
after_control g SpacingMark r j e = absurd (false≢true j)
after_control g T r j e = absurd (false≢true j)
after_control g V r j e = absurd (false≢true j)
after_control g Other r j e = absurd (false≢true j)
after_control g Zwj r j e = after_joiner g r e

joins_extend : (h : GraphemeClusterBreak) → is_extend h ≡ true → joins_left h ≡ true
joins_extend Extend e = refl
joins_extend Control e = absurd (false≢true e)
joins_extend Cr e = absurd (false≢true e)
joins_extend L e = absurd (false≢true e)
joins_extend Lf e = absurd (false≢true e)
joins_extend Lv e = absurd (false≢true e)
joins_extend Lvt e = absurd (false≢true e)
joins_extend Prepend e = absurd (false≢true e)
joins_extend RegionalIndicator e = absurd (false≢true e)
joins_extend SpacingMark e = absurd (false≢true e)
joins_extend T e = absurd (false≢true e)
joins_extend V e = absurd (false≢true e)
joins_extend Other e = absurd (false≢true e)
joins_extend Zwj e = absurd (false≢true e)

joins_joiner : (h : GraphemeClusterBreak) → is_zwj h ≡ true → joins_left h ≡ true
joins_joiner Zwj e = refl
joins_joiner Control e = absurd (false≢true e)
joins_joiner Cr e = absurd (false≢true e)
joins_joiner Extend e = absurd (false≢true e)
joins_joiner L e = absurd (false≢true e)
joins_joiner Lf e = absurd (false≢true e)
joins_joiner Lv e = absurd (false≢true e)
joins_joiner Lvt e = absurd (false≢true e)
joins_joiner Prepend e = absurd (false≢true e)
joins_joiner RegionalIndicator e = absurd (false≢true e)
joins_joiner SpacingMark e = absurd (false≢true e)
joins_joiner T e = absurd (false≢true e)
joins_joiner V e = absurd (false≢true e)
joins_joiner Other e = absurd (false≢true e)

control_is_no_extend : (g : GraphemeClusterBreak) → is_control g ≡ true → is_extend g ≡ false
control_is_no_extend Control e = refl
control_is_no_extend Cr e = refl
control_is_no_extend Extend e = absurd (false≢true e)
control_is_no_extend L e = refl
control_is_no_extend Lf e = refl
control_is_no_extend Lv e = refl
control_is_no_extend Lvt e = refl
control_is_no_extend Prepend e = refl
control_is_no_extend RegionalIndicator e = refl
control_is_no_extend SpacingMark e = refl
control_is_no_extend T e = refl
control_is_no_extend V e = refl
control_is_no_extend Other e = refl
control_is_no_extend Zwj e = refl

-- between two regional indicators there is a boundary only where no half of a flag is open
no_half_flag : (a m : Bool) → not (a || (m && true)) ≡ true → m ≡ false
no_half_flag true true e = absurd (false≢true e)
no_half_flag true false e = refl
no_half_flag false true e = absurd (false≢true e)
no_half_flag false false e = refl

after_regional : (g : GraphemeClusterBreak) (a m : Bool) → unwrap_or (break_by_pair true g RegionalIndicator) (not (a || ((is_regional g && m) && true))) ≡ true → (is_regional g && m) ≡ false
after_regional Control a m e = refl
after_regional Cr a m e = refl
after_regional Extend a m e = refl
after_regional L a m e = refl
after_regional Lf a m e = refl
after_regional Lv a m e = refl
after_regional Lvt a m e = refl
after_regional Prepend a m e = refl
after_regional RegionalIndicator a m e = no_half_flag a m e
after_regional SpacingMark a m e = refl
after_regional T a m e = refl
after_regional V a m e = refl
after_regional Other a m e = refl
after_regional Zwj a m e = refl

after_flag : (g h : GraphemeClusterBreak) (a m : Bool) → is_regional h ≡ true → unwrap_or (break_by_pair true g h) (not (a || ((is_regional g && m) && is_regional h))) ≡ true → (is_regional g && m) ≡ false
after_flag g RegionalIndicator a m r e = after_regional g a m e
after_flag g Control a m r e = absurd (false≢true r)
after_flag g Cr a m r e = absurd (false≢true r)
after_flag g Extend a m r e = absurd (false≢true r)
after_flag g L a m r e = absurd (false≢true r)
after_flag g Lf a m r e = absurd (false≢true r)
after_flag g Lv a m r e = absurd (false≢true r)
after_flag g Lvt a m r e = absurd (false≢true r)
after_flag g Prepend a m r e = absurd (false≢true r)
after_flag g SpacingMark a m r e = absurd (false≢true r)
after_flag g T a m r e = absurd (false≢true r)
after_flag g V a m r e = absurd (false≢true r)
after_flag g Other a m r e = absurd (false≢true r)
after_flag g Zwj a m r e = absurd (false≢true r)

module _ (d b : ℕ) (bs cs : List ℕ) (boundary : breaks (b ∷ bs) (d ∷ cs) ≡ true) where
  control_before : joins_left (grapheme_cluster_break d) ≡ true → is_control (grapheme_cluster_break b) ≡ true
  unfolding is_grapheme_break
  control_before j = after_control (grapheme_cluster_break b) (grapheme_cluster_break d) _ j boundary

  linker_case : (v w : IndicConjunctBreak) (ws : List IndicConjunctBreak) → (is_conjunct_extend v ≡ true → not (is_conjunct_mark w) ≡ true) → ends_in_linker (v ∷ w ∷ ws) ≡ ends_in_linker (v ∷ [])
  unfolding ends_in_linker
  linker_case InCb.Consonant w ws h = refl
  linker_case InCb.Linker w ws h = refl
  linker_case InCb.None w ws h = refl
  linker_case InCb.Extend InCb.Consonant ws h = refl
  linker_case InCb.Extend InCb.None ws h = refl
  linker_case InCb.Extend InCb.Extend ws h = absurd (false≢true (h refl))
  linker_case InCb.Extend InCb.Linker ws h = absurd (false≢true (h refl))

  no_pictograph : is_control (grapheme_cluster_break b) ≡ true → ends_in_pictograph (b ∷ bs) ≡ false
  unfolding ends_in_pictograph
  no_pictograph c = or_from (is_extended_pictographic b) _ (not-true _ (control_is_no_pictograph b c)) (ap (λ t. t && ends_in_pictograph bs) (control_is_no_extend (grapheme_cluster_break b) c))

  pictograph_case : ends_in_pictograph (d ∷ b ∷ bs) ≡ ends_in_pictograph (d ∷ [])
  unfolding ends_in_pictograph
  pictograph_case = by_test (is_extend (grapheme_cluster_break d))
      (λ e. ap (λ t. is_extended_pictographic d || (is_extend (grapheme_cluster_break d) && t)) (no_pictograph (control_before (joins_extend _ e))))
      (λ e. ap (λ t. is_extended_pictographic d || (t && ends_in_pictograph (b ∷ bs))) e ∙ sym (ap (λ t. is_extended_pictographic d || (t && false)) e))

  joiner_case : (is_zwj (grapheme_cluster_break d) && ends_in_pictograph (b ∷ bs)) ≡ false
  joiner_case = by_test (is_zwj (grapheme_cluster_break d))
      (λ e. ap (λ t. t && ends_in_pictograph (b ∷ bs)) e ∙ no_pictograph (control_before (joins_joiner _ e)))
      (λ e. ap (λ t. t && ends_in_pictograph (b ∷ bs)) e)

  flag_case : ends_in_half_flag (d ∷ b ∷ bs) ≡ ends_in_half_flag (d ∷ [])
  unfolding ends_in_half_flag is_grapheme_break
  flag_case = by_test (is_regional (grapheme_cluster_break d))
      (λ e. ap (λ t. is_regional (grapheme_cluster_break d) && not t) (after_flag (grapheme_cluster_break b) (grapheme_cluster_break d) (joins_conjunct (b ∷ bs) d || joins_emoji (b ∷ bs) d) (not (ends_in_half_flag bs)) e boundary))
      (λ e. ap (λ t. t && not (ends_in_half_flag (b ∷ bs))) e ∙ sym (ap (λ t. t && true) e))

  pub forgets : Forgets d (b ∷ bs)
  forgets = record {
    linker = linker_case (indic_conjunct_break d) (indic_conjunct_break b) _ (λ e. control_is_no_mark b (control_before (extend_joins_left d e)));
    pictograph = pictograph_case;
    joiner = joiner_case;
    flag = flag_case;
  }

-- ---- one cluster

-- The first cluster of characters: it is cut off, it is a single cluster by itself, and the rest is cut into the remaining clusters.
pub record First (before : List ℕ) (c : ℕ) (cs : List ℕ) : Type 0 where
  pub remaining : List ℕ
  pub rest : List ℕ
  pub whole : cs ≡ remaining ++ rest
  pub cut : pieces before (c ∷ cs) ≡ (c ∷ remaining) ∷ pieces [] rest
  pub alone : pieces before (c ∷ remaining) ≡ (c ∷ remaining) ∷ []

breaks_at_head : (before : List ℕ) (b d : ℕ) (xs ys : List ℕ) → breaks (b ∷ before) (d ∷ xs) ≡ breaks (b ∷ before) (d ∷ ys)
unfolding is_grapheme_break
breaks_at_head before b d xs ys = refl

pub cut_here : (before : List ℕ) (c : ℕ) (cs : List ℕ) → breaks (c ∷ before) cs ≡ true → pieces before (c ∷ cs) ≡ (c ∷ []) ∷ pieces (c ∷ before) cs
unfolding cut
cut_here before c cs e = ap (λ t. if t then (c ∷ []) ∷ pieces (c ∷ before) cs else prepend (c ∷ []) (pieces (c ∷ before) cs)) (ap (breaks (c ∷ before)) (append-nil cs) ∙ e)

cut_later : (before : List ℕ) (c : ℕ) (cs : List ℕ) → breaks (c ∷ before) cs ≡ false → pieces before (c ∷ cs) ≡ prepend (c ∷ []) (pieces (c ∷ before) cs)
unfolding cut
cut_later before c cs e = ap (λ t. if t then (c ∷ []) ∷ pieces (c ∷ before) cs else prepend (c ∷ []) (pieces (c ∷ before) cs)) (ap (breaks (c ∷ before)) (append-nil cs) ∙ e)

breaks_at_end : (before : List ℕ) (c : ℕ) → breaks (c ∷ before) [] ≡ true
unfolding is_grapheme_break
breaks_at_end before c = refl

pub pieces-nil : (before : List ℕ) → pieces before [] ≡ []
unfolding cut
pieces-nil before = refl

pub last_alone : (before : List ℕ) (c : ℕ) → pieces before (c ∷ []) ≡ (c ∷ []) ∷ []
last_alone before c = cut_here before c [] (breaks_at_end before c) ∙ ap (λ (ps : List (List ℕ)). (c ∷ []) ∷ ps) (pieces-nil (c ∷ before))

pub first : (before : List ℕ) (c : ℕ) (cs : List ℕ) → First before c cs
first before c [] = record { remaining = []; rest = []; whole = refl; cut = last_alone before c ∙ ap (λ (ps : List (List ℕ)). (c ∷ []) ∷ ps) (sym (pieces-nil [])); alone = last_alone before c }
first before c (d ∷ ds) = by_test (breaks (c ∷ before) (d ∷ ds))
    (λ e. record {
      remaining = [];
      rest = d ∷ ds;
      whole = refl;
      cut = cut_here before c (d ∷ ds) e ∙ ap (λ (ps : List (List ℕ)). (c ∷ []) ∷ ps) (cut_after d (c ∷ before) (forgets d c before ds e) ds);
      alone = last_alone before c;
    })
    (λ e.
    let next = first (c ∷ before) d ds in
    record {
      remaining = d ∷ next.remaining;
      rest = next.rest;
      whole = ap (λ (xs : List ℕ). d ∷ xs) next.whole;
      cut = cut_later before c (d ∷ ds) e ∙ ap (prepend (c ∷ [])) next.cut;
      alone = cut_later before c (d ∷ next.remaining) (breaks_at_head before c d next.remaining ds ∙ e) ∙ ap (prepend (c ∷ [])) next.alone;
    })

-- What is read off an SGR list at a position, with its rest, is the next action, and the rest says how far it goes.
use Rattle.std.proofs.Common.{◌≡◌, ℕ, ◌+◌, ◌-◌, ◌<◌, ◌≤◌, Bool, true, false, List, [], ◌∷◌, length, length-drop, drop, drop-drop, Option, Some, None, refl, sym, ap, subst, ◌∙◌, arith}
use Rattle.csi_codec.specs.Actions.{sgr, unspecified, all_sgr_tokens}
use Rattle.csi_codec.specs.Parsing.{actions_after, IsNext}
use Rattle.csi_codec.specs.Rendition.{sgr_group}
use Rattle.csi_codec.specs.declared.parameters.CsiParam.{CsiParam}
use Rattle.csi_codec.specs.declared.rendition.Sgr.{Sgr}
use Rattle.csi_codec.proofs.CoordinateLemmas.{rendition_fits, first_lost, first_next, further_next}
use Rattle.csi_codec.specs.Sources.{read_off}

-- the group of a list after `read` tokens: how many tokens it takes, and where they end
record Group (read : ℕ) (ts us rest : List CsiParam) (v : Sgr) (found : Option (Sgr × ℕ)) : Type 0 where
  pub count : ℕ
  pub is : found ≡ Some (v, count)
  pub left : rest ≡ drop (read + count) ts
  pub short : length rest ≤ length ts
  pub ends : read + count ≡ length ts - length rest

with_count : (read : ℕ) (ts us rest : List CsiParam) (v : Sgr) (found : Option (Sgr × ℕ)) → ((w : Sgr) (n : ℕ) → found ≡ Some (w, n) → n ≤ length us)
    → read ≤ length ts → us ≡ drop read ts → Some (v, rest) ≡ read_off us found → Group read ts us rest v found
with_count read ts us rest v None fits within at e = cc
with_count read ts us rest v (Some f) fits within at e =
    let some : f.1 ≤ length us = fits f.0 f.1 refl in
    let both : ◌≡◌ {A = Sgr × List CsiParam} (v, rest) (f.0, drop f.1 us) = cc in
    let value : v ≡ f.0 = ap (λ (p : Sgr × List CsiParam). p.0) both in
    let left : rest ≡ drop f.1 us = ap (λ (p : Sgr × List CsiParam). p.1) both in
    let short : length rest ≡ length us - f.1 = ap length left ∙ length-drop f.1 us in
    let all : length us ≡ length ts - read = ap length at ∙ length-drop read ts in
    record {
      count = f.1;
      is = sym (ap (λ (w : Sgr). Some (w, f.1)) value);
      left = left ∙ ap (λ l. drop f.1 l) at ∙ drop-drop f.1 read ts;
      short = omega arith;
      ends = omega arith;
    }

group_at : (read : ℕ) (ts us rest : List CsiParam) (v : Sgr) → read ≤ length ts → us ≡ drop read ts → Some (v, rest) ≡ read_off us (sgr_group us)
    → Group read ts us rest v (sgr_group us)
group_at read ts us rest v within at e = with_count read ts us rest v (sgr_group us) (λ w n is. (rendition_fits us w n is).1) within at e

pub short_at : (read : ℕ) (ts us rest : List CsiParam) (v : Sgr) → read ≤ length ts → us ≡ drop read ts → Some (v, rest) ≡ read_off us (sgr_group us)
    → length rest ≤ length ts
short_at read ts us rest v within at e = (group_at read ts us rest v within at e).short

pub first_at : (read : ℕ) (ts us rest : List CsiParam) (v : Sgr) → read ≤ 0 → 0 < length ts → us ≡ drop read ts → Some (v, rest) ≡ read_off us (sgr_group us)
    → all_sgr_tokens rest ≡ true → IsNext read ts 109 (sgr v) (length ts - length rest)
first_at read ts us rest v none some at e tokens =
    let g = group_at read ts us rest v (omega arith) at e in
    subst (λ n. IsNext read ts 109 (sgr v) n) g.ends
    (record { actions = λ truncated. first_next read g.count ts us v truncated none some at g.is (sym (ap all_sgr_tokens g.left) ∙ tokens) })

pub further_at : (read : ℕ) (ts us rest : List CsiParam) (v : Sgr) → 0 < read → read ≤ length ts → us ≡ drop read ts → Some (v, rest) ≡ read_off us (sgr_group us)
    → IsNext read ts 109 (sgr v) (length ts - length rest)
further_at read ts us rest v some within at e =
    let g = group_at read ts us rest v within at e in
    subst (λ n. IsNext read ts 109 (sgr v) n) g.ends (record { actions = λ truncated. further_next read g.count ts us v truncated some at g.is })

pub lost_at : (read : ℕ) (ts us rest : List CsiParam) (v : Sgr) (truncated : Bool) → read ≤ 0 → 0 < length ts → us ≡ drop read ts → Some (v, rest) ≡ read_off us (sgr_group us)
    → all_sgr_tokens rest ≡ false → actions_after read ts truncated 109 ≡ unspecified (drop read ts) truncated 109 ∷ []
lost_at read ts us rest v truncated none some at e tokens =
    let g = group_at read ts us rest v (omega arith) at e in
    first_lost read g.count ts us v truncated none some at g.is (sym (ap all_sgr_tokens g.left) ∙ tokens)

without : (us : List CsiParam) (found : Option (Sgr × ℕ)) → None ≡ read_off us found → found ≡ None
without us None e = refl
without us (Some f) e = cc

pub none_at : (us : List CsiParam) → None ≡ read_off us (sgr_group us) → sgr_group us ≡ None
none_at us e = without us (sgr_group us) e

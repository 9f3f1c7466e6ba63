-- What is read off with a group is what is read off with its shape, past a `;`.
use Rattle.std.proofs.Common.{◌≡◌, ℕ, zero, suc, ◌+◌, eqb, Bool, true, false, List, [], ◌∷◌, drop, Option, Some, None, option_map, zero-add, suc-add, refl, ap}
use Rattle.csi_codec.specs.Parameters.{semicolon_at}
use Rattle.csi_codec.specs.Rendition.{sgr_shape, sgr_group}
use Rattle.csi_codec.specs.declared.parameters.CsiParam.{CsiParam}
use Rattle.csi_codec.specs.declared.parameters.CsiParam.TheVariants.{Integer, P}
use Rattle.csi_codec.specs.declared.rendition.Sgr.{Sgr}
use Rattle.csi_codec.specs.Sources.{read_off, past_semicolon}

at_start : (t : Bool) (b : ℕ) (ts : List CsiParam) → eqb b 59 ≡ t → drop (semicolon_at (P b ∷ ts) 0) (P b ∷ ts) ≡ past_semicolon (P b ∷ ts)
at_start true b ts e = rw e refl
at_start false b ts e = rw e refl

pub past_drop : (ts : List CsiParam) (n : ℕ) → drop (n + semicolon_at ts n) ts ≡ past_semicolon (drop n ts)
past_drop [] zero = refl
past_drop [] (suc n) = rw suc-add refl
past_drop (Integer z ∷ ts) zero = refl
past_drop (P b ∷ ts) zero = rw zero-add (at_start (eqb b 59) b ts refl)
past_drop (t ∷ ts) (suc n) = rw suc-add (past_drop ts n)

with_found : (ts : List CsiParam) (found : Option (Sgr × ℕ)) → read_off ts (option_map (λ f. (f.0, f.1 + semicolon_at ts f.1)) found) ≡ option_map (λ f. (f.0, past_semicolon f.1)) (read_off ts found)
with_found ts None = refl
with_found ts (Some f) = ap (λ rest. Some (f.0, rest)) (past_drop ts f.1)

pub group_read : (ts : List CsiParam) → read_off ts (sgr_group ts) ≡ option_map (λ f. (f.0, past_semicolon f.1)) (read_off ts (sgr_shape ts))
unfolding sgr_group
group_read ts = with_found ts (sgr_shape ts)

use Rattle.std.proofs.Common.{◌≡◌, ◌<◌, ℕ, List, false, ap}
use Rattle.std.specs.Prelude.{not}
use Rattle.std.specs.Char.{is_ascii_control}
use Rattle.std.specs.List.{list_any}
use Rattle.std.proofs.lemmas.List.Elements.{All-filter, recursion_from_All}
use Rattle.std.proofs.lemmas.Map.Views.{any-filter_same}
use Rattle.escape_osc.proofs.Base64Lemmas.{bytes_each}
use Rattle.escape_osc.proofs.ReadWritable.{read_writable}
use Rattle.escape_framing.specs.Bytes.{taken}
use Rattle.escape_stream.proofs.encoding_laws.read_commands_are_writable.Goals as goal

no_control : (body : List ℕ) → list_any is_ascii_control (taken body) ≡ false
no_control body = any-filter_same is_ascii_control (λ b. not (is_ascii_control b)) false (λ b e. ap not e) body

pub returns : goal.returns
returns c = λ body bytes none.
    read_writable (taken body) (bytes_each (taken body) (recursion_from_All (λ b. b < 256) (taken body) (All-filter (λ b. not (is_ascii_control b)) (λ b. b < 256) body bytes)))
    (record { no_c0 = no_control body; no_c1 = none })

use Rattle.std.proofs.Common.{◌≡◌, ℕ, List, [], ◌∷◌, refl, false}
use Rattle.csi_codec.specs.Actions.{Action, csi_reading, spelling_of}
use Rattle.std.specs.List.{AllByRecursion}
use Rattle.csi_codec.specs.Sequences.{csi_text}
use Rattle.csi_codec.specs.Prefixes.{HasPrefix, whole_prefix}
use Rattle.csi_codec.specs.Laws.{ReadsBack, is_exempt}
use Rattle.csi_codec.specs.declared.parameters.CsiParam.{CsiParam}
use Rattle.escape_stream.specs.StreamWritable.{EachIsReadBack}
use Rattle.escape_stream.proofs.encoding_laws.read_sequences_are_writable.Goals as goal

each_back : (ts : List CsiParam) (final : ℕ) (actions : List Action) → AllByRecursion (λ a. is_exempt ts final a ≡ false → ReadsBack false a) actions
    → AllByRecursion (λ a. HasPrefix (csi_text a) (whole_prefix (spelling_of a))) actions → EachIsReadBack ts final actions
each_back ts final [] r f = tt
each_back ts final (a ∷ remaining) r f = (λ e. record { prefix = whole_prefix (spelling_of a); stands = f.0; whole = refl; action = r.0 e }, each_back ts final remaining r.1 f.1)

pub returns : goal.returns
returns c = λ ts final spelled short low high. each_back ts final (csi_reading ts false final) (c.actions_read_back.ensures ts false final) (c.texts_are_sequences.ensures ts false final spelled short low high)

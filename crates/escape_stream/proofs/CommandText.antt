-- The texts of control sequences, operating system commands and openings of device control strings.
use Rattle.std.proofs.Common.{◌≡◌, ℕ, ◌≤◌, true, false, List, [], ◌∷◌, ◌++◌, map, length, take, refl, sym, ap, ◌∙◌, arith, append_assoc, append-nil}
use Rattle.std.specs.Prelude.{nat_lt}
use Rattle.std.specs.List.{list_all}
use Rattle.std.proofs.lemmas.Bool.{or_parts}
use Rattle.std.proofs.lemmas.Bool.Decides.{nat_tests}
use Rattle.text_clusters.specs.Controls.{holds_c1, is_c1}
use Rattle.csi_codec.specs.Actions.{csi_reading}
use Rattle.csi_codec.specs.Actions as codec
use Rattle.csi_codec.specs.Sequences.{csi_text}
use Rattle.csi_codec.specs.Texts.{tokens_of}
use Rattle.escape_osc.specs.Command.{Command}
use Rattle.escape_osc.specs.Parts.{parts_of}
use Rattle.escape_osc.specs.Reading.{osc_reading}
use Rattle.escape_osc.specs.Text.{body_of, text_of}
use Rattle.escape_osc.specs.Writable as osc
use Rattle.escape_osc.proofs.WritableBack.{writable_back}
use Rattle.escape_framing.specs.Bytes.{is_stop, is_final, taken}
use Rattle.escape_framing.specs.Segment.{ControlSequence, OperatingSystemCommand}
use Rattle.escape_framing.specs.Dispatch.{control_sequence_dispatch, command_dispatch, dispatches_of}
use Rattle.escape_framing.proofs.Existence.SevenBitLemmas.{no_pair, no_pair_after}
use Rattle.escape_stream.specs.StreamAction.{StreamAction, command, csi}
use Rattle.escape_stream.specs.StreamActions.{actions_of}
use Rattle.escape_stream.specs.StreamWritable.{IsReadBack}
use Rattle.escape_stream.proofs.PlainBytes.{low_byte, is_plain, taken_plain, controls_in_plain, ends_none, plain_bytes, is_parameter_byte, parameter_bytes, parameters_plain, parameters_inside, parameters_low}
use Rattle.escape_stream.proofs.TextSegments.{Says, says_same, says_segment, low_stands, low_text, escape_after, other_stands}

-- ---- Control sequences

pub final_byte : (final : ℕ) → 64 ≤ final → final ≤ 126 → is_final final ≡ true
unfolding is_final
final_byte final l h = grind (arith, nat_tests)

sequence_asks : (body : List ℕ) (final : ℕ) → list_all is_plain body ≡ true
    → actions_of (dispatches_of (ControlSequence [] body final)) ≡ map csi (csi_reading (take 256 (tokens_of body)) (nat_lt 256 (length (tokens_of body))) final)
unfolding control_sequence_dispatch
sequence_asks body final p =
    ap (λ ds. actions_of (ds ++ control_sequence_dispatch (taken body) final ∷ [])) (controls_in_plain body p)
    ∙ ap (λ bs. actions_of (control_sequence_dispatch bs final ∷ [])) (taken_plain body p)
    ∙ append-nil (map csi (csi_reading (take 256 (tokens_of body)) (nat_lt 256 (length (tokens_of body))) final))

says_sequence : (body : List ℕ) (final : ℕ) (bytes : List ℕ) (actions : List StreamAction) → list_all is_parameter_byte body ≡ true → 64 ≤ final → final ≤ 126 → Says bytes actions
    → Says (27 ∷ 91 ∷ (body ++ final ∷ bytes)) (map csi (csi_reading (take 256 (tokens_of body)) (nat_lt 256 (length (tokens_of body))) final) ++ actions)
says_sequence body final bytes actions p l u h =
    says_same split (ap (λ a. a ++ actions) (sequence_asks body final (parameters_plain body p)))
    (says_segment (ControlSequence [] body final) bytes actions (refl, parameters_inside body p, final_byte final l u) (ap (λ x. no_pair (0xC2 ∷ x)) split ∙ stands) h)
  where
    split : (27 ∷ 91 ∷ (body ++ final ∷ [])) ++ bytes ≡ 27 ∷ 91 ∷ (body ++ final ∷ bytes)
    split = ap (λ x. 27 ∷ 91 ∷ x) (append_assoc body (final ∷ []) bytes)

    after : no_pair (0xC2 ∷ (body ++ final ∷ bytes)) ≡ true
    after = low_text body (final ∷ bytes) (parameters_low body p) (low_stands final bytes (low_byte final u) (no_pair_after (0xC2 ∷ []) bytes h.unpaired))

    stands : no_pair (0xC2 ∷ 27 ∷ 91 ∷ (body ++ final ∷ bytes)) ≡ true
    stands = low_text (27 ∷ 91 ∷ []) (body ++ final ∷ bytes) refl after

pub says_csi : (a : codec.Action) (bytes : List ℕ) (actions : List StreamAction) → IsReadBack a → Says bytes actions → Says (csi_text a ++ bytes) (csi a ∷ actions)
says_csi a bytes actions r h =
    let f = r.prefix in
    let s = r.stands.sequence in
    let body = r.stands.body in
    let text : csi_text a ≡ 27 ∷ 91 ∷ (body ++ f.control ∷ []) = s.text ∙ ap (λ rest. 27 ∷ 91 ∷ (body ++ f.control ∷ rest)) r.whole in
    let reads : map csi (csi_reading (take 256 (tokens_of body)) (nat_lt 256 (length (tokens_of body))) f.control) ≡ csi a ∷ [] =
    ap (λ ts. map csi (csi_reading ts (nat_lt 256 (length (tokens_of body))) f.control)) (sym r.stands.kept)
    ∙ ap (λ t. map csi (csi_reading f.params t f.control)) (sym r.stands.dropped)
    ∙ ap (map csi) r.action in
    says_same (sym (ap (λ x. x ++ bytes) text ∙ ap (λ x. 27 ∷ 91 ∷ x) (append_assoc body (f.control ∷ []) bytes))) (ap (λ x. x ++ actions) reads)
    (says_sequence body f.control bytes actions (parameter_bytes body s.parameters) s.low s.high h)

-- ---- Operating system commands

not_c1 : (body : List ℕ) → holds_c1 body ≡ false → no_pair body ≡ true
unfolding holds_c1
not_c1 [] h = refl
not_c1 (b ∷ []) h = refl
not_c1 (b ∷ c ∷ body) h =
    let p = or_parts (is_c1 b c) (holds_c1 (c ∷ body)) h in
    rw p.0 (not_c1 (c ∷ body) p.1)

command_asks : (body : List ℕ) → list_all is_plain body ≡ true → actions_of (dispatches_of (OperatingSystemCommand [] body 27)) ≡ command (osc_reading (parts_of body)) ∷ []
unfolding command_dispatch
command_asks body p = ap (λ bs. command (osc_reading (parts_of bs)) ∷ []) (taken_plain body p)

-- the command ends before ESC
says_body : (body bytes : List ℕ) (actions : List StreamAction) → list_all is_plain body ≡ true → holds_c1 body ≡ false → Says (27 ∷ bytes) actions
    → Says (27 ∷ 93 ∷ (body ++ 27 ∷ bytes)) (command (osc_reading (parts_of body)) ∷ actions)
unfolding is_stop
says_body body bytes actions p n h =
    says_same split (ap (λ a. a ++ actions) (command_asks body p))
    (says_segment (OperatingSystemCommand [] body 27) (27 ∷ bytes) actions (refl, ends_none body p, refl, refl) (ap (λ x. no_pair (0xC2 ∷ x)) split ∙ stands) h)
  where
    split : (27 ∷ 93 ∷ (body ++ [])) ++ 27 ∷ bytes ≡ 27 ∷ 93 ∷ (body ++ 27 ∷ bytes)
    split = ap (λ x. 27 ∷ 93 ∷ (x ++ 27 ∷ bytes)) (append-nil body)

    stands : no_pair (0xC2 ∷ 27 ∷ 93 ∷ (body ++ 27 ∷ bytes)) ≡ true
    stands = other_stands 93 (body ++ 27 ∷ bytes) refl (escape_after body bytes (not_c1 body n) (no_pair_after (0xC2 ∷ []) (27 ∷ bytes) h.unpaired))

-- the text of a command reads as the command, if ESC \ and the bytes after it read as these actions
pub says_command : (c : Command) (bytes : List ℕ) (actions : List StreamAction) → osc.IsWritable c → Says (27 ∷ 92 ∷ bytes) actions → Says (text_of c ++ bytes) (command c ∷ actions)
says_command c bytes actions w h =
    says_same (sym (ap (λ x. 27 ∷ 93 ∷ x) (append_assoc (body_of c) (27 ∷ 92 ∷ []) bytes))) (ap (λ x. command x ∷ actions) (writable_back c w))
    (says_body (body_of c) (92 ∷ bytes) actions (plain_bytes (body_of c) w.clean.no_c0) w.clean.no_c1 h)

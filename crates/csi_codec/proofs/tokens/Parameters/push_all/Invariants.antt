-- the pushed bytes, followed by the parameter bytes after them, are the parameter bytes at the start of all bytes
use Rattle.std.proofs.Common.{◌≡◌, ◌+◌, drop, fold, take}
use Rattle.std.specs.List.{prefix_len}
use Rattle.csi_codec.specs.Tokens.{is_parameter, with_byte}
use Rattle.csi_codec.proofs.tokens.Parameters.push_all.Given as goal

abbrev pub invariant-loop-byte : goal.invariant-loop-byte
invariant-loop-byte l = record {
  index : l.count ≡ l.byte-index;
  counted : l.count + prefix_len is_parameter (drop l.byte-index l.bytes) ≡ prefix_len is_parameter l.bytes;
  folded : l.self ≡ fold with_byte l.fn.self (take l.byte-index l.bytes);
}

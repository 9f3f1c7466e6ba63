use Rattle.std.proofs.Common.{◌≤◌, arith, ap, length}
use Rattle.std.specs.Fmt.{decimal}
use Rattle.std.proofs.lemmas.Fmt.{length-decimal-le}
use Rattle.std.proofs.lemmas.List.{length-append}
use Rattle.csi_codec.proofs.text.SequenceText.push_number.Goals as goal

pub push_large_number-requires : goal.push_large_number-requires
push_large_number-requires c =
    let digits : length (decimal c.args.number) ≤ 10 = length-decimal-le 10 c.args.number (omega arith) (omega arith) (omega arith) in
    omega arith

pub returns-else-number-lt256-clause-short : goal.returns-else-number-lt256-clause-short
returns-else-number-lt256-clause-short c =
    let digits : length (decimal c.args.number) ≤ 10 = length-decimal-le 10 c.args.number (omega arith) (omega arith) (omega arith) in
    omega (arith, ap length c.push_large_number.ensures, length-append c.args.self.now (decimal c.args.number))

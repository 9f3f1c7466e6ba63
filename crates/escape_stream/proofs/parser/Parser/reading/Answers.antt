use Rattle.std.proofs.Common.{refl, ap, ◌∙◌}
use Rattle.escape_stream.specs.ParserShown.{Parsing}
use Rattle.escape_stream.proofs.AdvanceLemmas.{begins}
use Rattle.escape_stream.proofs.parser.Parser.reading.Goals as goal

pub returns-clause-pieces : goal.returns-clause-pieces
returns-clause-pieces c = λ stream e.
    let b = begins _ stream c.args.bytes.now (ap (λ (p : Parsing). p.held) c.fail.ensures ∙ e) refl refl refl in
    (b.ready, b.pieces, b.ends)

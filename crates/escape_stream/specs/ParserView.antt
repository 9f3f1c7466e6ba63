-- How the fields of a parser are read.
use Rattle.std.specs.Prelude.{◌≡◌, false}
use Rattle.escape_framing.specs.Framed.{IsReached}
use Rattle.escape_stream.specs.ParserShown.{Parsing}
use Rattle.escape_stream.specs.declared.parser.Parser.TheInside.{Inside}

abbrev pub parsing_of : Inside → Parsing
parsing_of p =
    record { held = p.framer.held; parameters = p.framer.parameters; body = p.framer.body; failed = p.failed }

-- unless the parser has failed, the state that it holds is that after some stream
abbrev pub HoldsStream : Inside → Type 0
HoldsStream p = p.failed ≡ false → IsReached p.framer.held

use Rattle.std.proofs.Common.{◌+◌, ◌∙◌, List, ◌∷◌, [], ◌++◌, ap, sym, add-one, append_assoc, arith}
use Rattle.terminal_c.specs.ToldCells.{byte_told, each_told}
use Rattle.terminal_c.specs.declared.told.Cell.{Cell}
use Rattle.terminal_c.proofs.ToldLemmas.{each_more}
use Rattle.terminal_c.proofs.fast.plain_cells.push_cells.Goals as goal

pub loop-at-preserved : goal.loop-at-preserved
loop-at-preserved c =
    let column = c.args.column in
    let text_at = c.args.text_at in
    let at = c.loop-at.at in
    let face = c.args.face in
    let before : List Cell = c.reserve.new.self.items in
    let cell : Cell = byte_told (column + at) (text_at + at) face in
    record {
      told =
          c.push_reserved.ensures.items
          ∙ ap (λ (cells : List Cell). cells ++ cell ∷ []) c.loop-at.invariant.told
          ∙ append_assoc before (each_told column text_at at face) (cell ∷ [])
          ∙ ap (λ (cells : List Cell). before ++ cells) (sym (each_more column text_at at face))
          ∙ ap (λ n. before ++ each_told column text_at n face) (sym (add-one at));
      room = omega (arith, c.push_reserved.ensures.len, c.push_reserved.ensures.capacity, c.loop-at.invariant.room);
    }

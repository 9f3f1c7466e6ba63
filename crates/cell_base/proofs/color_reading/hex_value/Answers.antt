use Rattle.std.proofs.Common.{ℕ, zero, suc, ◌<◌, ◌^◌, arith}
use Rattle.cell_base.proofs.color_reading.hex_value.Goals as goal

value_bound : (i v : ℕ) → i < 4 → v < 16 ^ i → v < 4096
value_bound zero v l h = omega arith
value_bound (suc zero) v l h = omega arith
value_bound (suc (suc zero)) v l h = omega arith
value_bound (suc (suc (suc zero))) v l h = h
value_bound (suc (suc (suc (suc i)))) v l h = absurd (omega arith)

pub overflow_mul-value : goal.overflow_mul-value
overflow_mul-value c =
    let small : c.loop-digit.value < 4096 = value_bound c.loop-digit.digit-index c.loop-digit.value (omega arith) c.loop-digit.invariant.2 in
    omega arith

pub overflow_add-value : goal.overflow_add-value
overflow_add-value c =
    let small : c.loop-digit.value < 4096 = value_bound c.loop-digit.digit-index c.loop-digit.value (omega arith) c.loop-digit.invariant.2 in
    omega arith

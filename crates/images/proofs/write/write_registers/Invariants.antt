use Rattle.std.proofs.Common.{◌≡◌, ◌*◌, ◌^◌, ◌<◌, ◌++◌, take, drop}
use Rattle.std.specs.List.{AllByRecursion}
use Rattle.images.specs.Image.{register_words}
use Rattle.images.proofs.write.write_registers.Given as goal

abbrev pub invariant-loop-register : goal.invariant-loop-register
invariant-loop-register l =
    (l.buffer ≡ register_words 0 (take l.register l.registers) ++ drop (2 * l.register) l.initial.buffer)
    × AllByRecursion (λ x. x < 2 ^ 32) (take l.register l.registers)

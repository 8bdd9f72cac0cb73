use Rattle.std.proofs.Common.{◌≡◌, ◌%◌, ◌^◌, arith}
use lib.Bits.{bit_and}
use Rattle.std.proofs.lemmas.Nat.{and_mask}
use Rattle.std.proofs.lemmas.Bool.Decides.{nat_tests}
use Rattle.images.proofs.read.read_value.Goals as goal

pub returns-then-value-most : goal.returns-then-value-most
returns-then-value-most c =
    let m : bit_and c.args.word 16777215 ≡ c.args.word % 2 ^ 24 = and_mask c.args.word 24 in
    record { answer = grind (arith, nat_tests); within = omega arith }

pub returns-else-word-from : goal.returns-else-word-from
returns-else-word-from c =
    let m : bit_and c.args.word 16777215 ≡ c.args.word % 2 ^ 24 = and_mask c.args.word 24 in
    record { answer = grind (arith, nat_tests); within = tt }

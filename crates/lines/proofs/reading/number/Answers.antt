use Rattle.std.proofs.Common.{take, drop, length, ◌-◌, arith}
use Rattle.std.specs.Char.{is_ascii_digit}
use Rattle.std.specs.List.{prefix_len}
use Rattle.std.proofs.lemmas.List.Sums.{prefix_len-le-length}
use Rattle.lines.proofs.Digits.{front_digits, within_nine}
use Rattle.lines.proofs.reading.number.Goals as goal

pub split_at-requires : goal.split_at-requires
split_at-requires c =
    let rest = take (length c.args.text.now - 1) (drop 1 c.args.text.now) in
    omega (arith, within_nine (prefix_len is_ascii_digit rest) c.in_ok-n.n c.in_ok-n.ensures, prefix_len-le-length is_ascii_digit rest)

pub value-requires-clause-digits : goal.value-requires-clause-digits
value-requires-clause-digits c =
    let rest = take (length c.args.text.now - 1) (drop 1 c.args.text.now) in
    rw (c.split_at.ensures.front, (within_nine (prefix_len is_ascii_digit rest) c.in_ok-n.n c.in_ok-n.ensures).0) (front_digits rest)

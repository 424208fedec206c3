-- One digit, or the digits of the tenth and one more.
use Rattle.text.proofs.Decimals.{one_digit, one_more}
use Rattle.text.proofs.+put_digits.Goals.{then-n-ge10, else-n-ge10}
use Rattle.text.proofs.+put_digits.Goals as goal

pub returns : goal.returns
returns t c = λ k p l. elim c.if-n-ge10.branch [
  | then-n-ge10 w ↦ rw (c.push.ensures, w.t-is) (one_more c.args.t.now w.put_digits.new.t c.args.n k w.if-n-ge10.true l w.put_digits.ensures)
  | else-n-ge10 w ↦ rw (c.push.ensures, w.t-is) (one_digit c.args.t.now c.args.n k w.if-n-ge10.false p)
]

-- `put_line` writes bytes, and behind them the one that ends a line.
use Rattle.decimals.proofs.Digits.{line_stored}
use Rattle.lines.proofs.put_line.Goals as goal

pub returns : goal.returns
returns c =
    let (first, second) = line_stored c.args.bytes.now c.args.out.now c.put_bytes-n.new.out c.put_bytes-n.result c.requires c.put_bytes-n.ensures.value c.put_bytes-n.ensures.out_after in
    record { value = first; out_after = second }

use Rattle.file_again.proofs.write_whole.Goals as goal

pub returns : goal.returns
returns c =
    let p = rw c.net_at-net.ensures.value at c.write_case.ensures in
    record { answer = p.answer; left = p.left }

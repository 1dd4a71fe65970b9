use Rattle.images.proofs.put_numbers.Goals as goal

pub returns : goal.returns
returns c =
    rw (c.put_three-2.ensures, c.put_three.ensures)

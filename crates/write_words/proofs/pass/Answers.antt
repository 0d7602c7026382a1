use Rattle.write_buffer.specs.Storing.{bytes_from}
use Rattle.write_words.specs.Encode.{encode_bytes}
use Rattle.write_words.proofs.pass.Goals as goal

pub pass-requires : goal.pass-requires
pass-requires c =
    let room = rw c.in-Evt2.is at c.requires.2 in
    (c.requires.0, unfold encode_bytes bytes_from in room, rw c.in-Evt2.is at c.requires.3)

pub pass-requires-in-Evt21 : goal.pass-requires-in-Evt21
pass-requires-in-Evt21 c =
    let room = rw c.in-Evt21.is at c.requires.2 in
    (c.requires.0, unfold encode_bytes bytes_from in room, rw c.in-Evt21.is at c.requires.3)

pub pass-requires-in-Evt3 : goal.pass-requires-in-Evt3
pass-requires-in-Evt3 c =
    let few = rw c.in-Evt3.is at c.requires.1 in
    let room = rw c.in-Evt3.is at c.requires.2 in
    let paced = rw c.in-Evt3.is at c.requires.4 in
    (c.requires.0, unfold encode_bytes bytes_from in few, unfold encode_bytes bytes_from in room, paced)

pub returns-in-Evt2 : goal.returns-in-Evt2
returns-in-Evt2 c = rw c.in-Evt2.is (unfold encode_bytes bytes_from in c.pass.ensures)

pub returns-in-Evt21 : goal.returns-in-Evt21
returns-in-Evt21 c = rw c.in-Evt21.is (unfold encode_bytes bytes_from in c.pass-in-Evt21.ensures)

pub returns-in-Evt3 : goal.returns-in-Evt3
returns-in-Evt3 c = rw c.in-Evt3.is (unfold encode_bytes bytes_from in c.pass-in-Evt3.ensures)

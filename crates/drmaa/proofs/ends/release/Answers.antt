use Rattle.drmaa.proofs.ends.release.Goals as goal

pub returns : goal.returns
returns g c =
    let a = c.retire.ensures in
    let b = c.retire-2.ensures in
    let d = c.retire-3.ensures in record {
      first = c.retire.new.opener;
      second = c.retire-2.new.opener;
      of_launcher = record { opener = a.opener; from_old = a.from_old; from_client = a.from_client; retired = a.retired; was_out = a.was_out; given = a.given; own = a.own };
      of_reaping = record { opener = b.opener; from_old = b.from_old; from_client = b.from_client; retired = b.retired; was_out = b.was_out; given = b.given; own = b.own };
      of_hub_seat = record { opener = d.opener; from_old = d.from_old; from_client = d.from_client; retired = d.retired; was_out = d.was_out; given = d.given; own = d.own };
    }

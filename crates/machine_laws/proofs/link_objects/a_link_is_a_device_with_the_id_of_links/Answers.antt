use Rattle.machine_laws.proofs.LinksTold.{link_told}
use Rattle.machine_laws.proofs.link_objects.a_link_is_a_device_with_the_id_of_links.Goals as goal

pub returns : goal.returns
returns g c = link_told

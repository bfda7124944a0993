-- The reading is that of its place.
use Rattle.cfg_endpoint.proofs.Questions.{clock_asked}
use Rattle.cfg_endpoint.proofs.devices.EndpointDevicesDevices.now.Goals as goal

pub returns-clause-asked : goal.returns-clause-asked
returns-clause-asked c =
    let was = c.self.inside in
    clock_asked was.endpoint was.clock was.place was.first_given was.first_place c.args.self.now was.others.faults c.self.view_is c.next_reading.result c.next_reading.new.place
    c.next_reading.ensures.reading c.next_reading.ensures.further (c.next_reading.ensures.fits c.self.invariant.readings)

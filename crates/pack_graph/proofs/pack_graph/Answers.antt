-- `pack_graph` meets its contract: 11, or what comes of an arrangement in which every offset fits.
use Rattle.pack_graph.proofs.Works.{pack-copying, pack-surveying, pack-arranging, pack-over, pack-fitting, pack-written}
use Rattle.pack_graph.proofs.pack_graph.Goals as goal

pub copy_graph-requires : goal.copy_graph-requires
copy_graph-requires c = pack-copying c.requires

pub survey-size-requires : goal.survey-size-requires
survey-size-requires c = pack-surveying c.requires c.copy_graph.ensures

pub arrange-r-requires : goal.arrange-r-requires
arrange-r-requires c = pack-arranging c.requires c.copy_graph.ensures c.survey-size.ensures

pub write_fitting-requires : goal.write_fitting-requires
write_fitting-requires c = pack-fitting c.requires c.copy_graph.ensures c.survey-size.ensures c.arrange-r.ensures c.in-Ok.is

pub returns-in-Ok : goal.returns-in-Ok
returns-in-Ok c = pack-written c.requires c.copy_graph.ensures c.survey-size.ensures c.arrange-r.ensures c.in-Ok.is c.write_fitting.ensures

pub returns-in-Err : goal.returns-in-Err
returns-in-Err c = rw c.with.ensures (pack-over c.requires c.copy_graph.ensures c.survey-size.ensures c.arrange-r.ensures _ c.in-Err.is)

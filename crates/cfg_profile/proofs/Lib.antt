pub mod Later
pub mod Trails
pub mod PathTrails
pub mod Emptiness
pub mod ToldErrors
pub mod KnownSources
pub mod PlanLaws
pub mod RegionWalks

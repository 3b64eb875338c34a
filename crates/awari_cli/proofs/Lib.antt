mod HostLaws
